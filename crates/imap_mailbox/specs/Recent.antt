-- The last shared events of a mailbox, for sessions that were told of all up to one of them.
use Rattle.std.specs.Prelude.{◌≡◌, ℕ, ◌+◌, ◌-◌, ◌<◌, ◌≤◌, List, [], ◌∷◌, ◌++◌, length, drop, refl}
use Rattle.std.specs.Coded.{Coded, code_by, coded×, coded_ℕ, coded_list}
use Rattle.imap_mailbox.specs.declared.message.Message.{Message}

-- the UIDs of the last events, one after another from the place of the first that is still noted
pub record Recent : Type 0 where
  pub first : ℕ
  pub uids : List ℕ

abbrev pub recent_code : Coded Recent
recent_code =
    code_by (ℕ × List ℕ) (coded× coded_ℕ (coded_list coded_ℕ)) (λ r. (r.first, r.uids))
    (λ t. record { first = t.0; uids = t.1 }) (λ _. refl)

-- the place of the next event
abbrev pub end_of : Recent → ℕ
end_of r = r.first + length r.uids

-- the next event is of this UID. Some of the oldest may be forgotten
pub record IsNoted (uid : ℕ) (old new : Recent) : Type 0 where
  pub forgotten : ℕ
  pub first : new.first ≡ old.first + forgotten
  pub uids : new.uids ≡ drop forgotten (old.uids ++ uid ∷ [])
  pub few : forgotten ≤ length old.uids + 1

-- the event at the place is noted as one of the UID, if it isn't forgotten
pub record IsNotedAt (r : Recent) (place uid : ℕ) : Type 0 where
  pub before : place < end_of r
  pub noted : r.first ≤ place → (rest : List ℕ) × (drop (place - r.first) r.uids ≡ uid ∷ rest)

-- the last event of the message is noted
abbrev pub IsRecent : Recent → Message → Type 0
IsRecent r m = IsNotedAt r m.place m.uid

abbrev pub AreRecent : Recent → List Message → Type 0
AreRecent r [] = Unit {0}
AreRecent r (m ∷ messages) = IsRecent r m × AreRecent r messages

-- what is noted of the messages of a mailbox with this many shared events
pub record AreNoted (shared : ℕ) (messages : List Message) (r : Recent) : Type 0 where
  pub ends : end_of r ≡ shared
  pub recent : AreRecent r messages
