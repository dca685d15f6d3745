-- Messages that are lent.
use Rattle.std.proofs.Common.{◌≡◌, ℕ, zero, suc, ◌+◌, ◌<◌, ◌≤◌, ltb, cond, List, [], ◌∷◌, length, map, get_or, Option, Some, None, refl, sym, ap, subst, ◌∙◌, arith}
use Rattle.std.proofs.lemmas.List.{length-map}
use Rattle.std.specs.List.{prefix_len}
use Rattle.std.specs.Option.{option_copied}
use Rattle.std.specs.Borrow.{Bor}
use Rattle.std.specs.FinMap as fin
use Rattle.imap_user_map.specs.Rows as table
use Rattle.imap_modseq.specs.Numbers.{max_events}
use Rattle.imap_mailbox.specs.declared.message.Message.{Message}
use Rattle.imap_mailbox.specs.Owned.{Owned}
use Rattle.imap_mailbox.specs.Rows.{Row}
use Rattle.imap_mailbox.specs.Own.{Own}
use Rattle.imap_mailbox.specs.Summary.{Summary, row_in, ArePlacesBelow, Rises, places_in, uids_in}
use Rattle.imap_mailbox.specs.Held.{list_at, IsKept}
use Rattle.imap_mailbox.specs.Lent.{own_lent, IsLent, AreGoneLent, row_uids}
use Rattle.imap_mailbox.specs.declared.message.GoneMessage.{GoneMessage}
use Rattle.imap_mailbox.proofs.Rising.{rises_end, rises_upper}
use Rattle.imap_mailbox.proofs.Keeping.{found_is, absent_is, last_in}

pub uids_lent : (own : Own) (messages : List Message) → uids_in messages ≡ row_uids (map (row_in own) messages)
uids_lent own [] = refl
uids_lent own (m ∷ messages) = ap (λ us. m.uid ∷ us) (uids_lent own messages)

pub lower_lent : (uid : ℕ) (own : Own) (messages : List Message) → prefix_len (λ (m : Message). ltb m.uid uid) messages ≡ prefix_len (λ (r : Row). ltb r.uid uid) (map (row_in own) messages)
lower_lent uid own [] = refl
lower_lent uid own (m ∷ messages) = ap (λ n. cond (ltb m.uid uid) (1 + n) 0) (lower_lent uid own messages)

pub lent_last : (messages : List Message) (i : ℕ) (d : Message) → IsLent messages → i < length messages → (get_or messages i d).place ≤ max_events
lent_last messages i d h lt = let below = last_in (max_events + 1) messages i d h.place lt in omega (arith, below)

-- the last event of a message that is lent
pub place_lent : (messages : List Message) (own : Own) (rows : List Row) (i : ℕ) (x : Message) → IsLent messages → map (row_in own) messages ≡ rows → i < length rows
    → x ≡ get_or messages i x → x.place ≤ max_events
place_lent messages own rows i x h view lt is =
    let count = ap length (sym view) ∙ length-map messages (row_in own) in
    subst (λ (k : Message). k.place ≤ max_events) (sym is) (lent_last messages i x h (omega (arith, lt, count)))

below_more : (n more : ℕ) (messages : List Message) → n ≤ more → ArePlacesBelow n messages → ArePlacesBelow more messages
below_more n more [] le h = tt
below_more n more (c ∷ messages) le h = let here : c.place < n = h.0 in (omega arith, below_more n more messages le h.1)

pub own_is : (own : table.Rows Owned) (user : List ℕ) (r : Option (Bor Owned)) → option_copied r ≡ fin.get own.map user → list_at own user ≡ own_lent r
own_is own user None value = absent_is own user None refl value
own_is own user (Some o) value = found_is own user (Some o) o refl value

pub lent : (s : Summary) → IsKept s → IsLent s.messages
lent s h = record {
  place = let few = h.few in below_more s.shared (max_events + 1) s.messages (omega (arith, few)) h.sound.place;
  uids = (1, s.next, h.sound.uids);
}

pub gone_place : (low high : ℕ) (gone : List GoneMessage) (i : ℕ) (d : GoneMessage) → Rises low high (places_in gone) → i < length gone → (get_or gone i d).place ≤ high
gone_place low high [] i d h lt = absurd (omega arith)
gone_place low high (t ∷ gone) zero d h lt = let end = rises_end (t.place + 1) high (places_in gone) h.1 in omega arith
gone_place low high (t ∷ gone) (suc i) d h lt = gone_place (t.place + 1) high gone i d h.1 (omega arith)

pub gone_lent : (s : Summary) → IsKept s → AreGoneLent s.gone 0
gone_lent s h = record {
  within = omega arith;
  places = (0, rises_upper 0 s.shared max_events (places_in s.gone) h.few h.sound.places);
}
