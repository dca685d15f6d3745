-- What is asked of the parts of a mailbox, whatever their order.
use Rattle.std.specs.Prelude.{◌≡◌, ℕ, ◌+◌, ◌<◌, ◌≤◌, List, [], ◌∷◌, length, Result, Ok, Err}
use Rattle.std.specs.FinMap as fin
use Rattle.imap_modseq.specs.Merge.{AreInOrder}
use Rattle.imap_modseq.specs.Numbers.{max_events}
use Rattle.imap_user_map.specs.Rows as users
use Rattle.imap_mailbox.specs.declared.message.GoneMessage.{GoneMessage}
use Rattle.imap_mailbox.specs.declared.message.Message.{Message}
use Rattle.imap_mailbox.specs.declared.parts.PartsError.{PartsError}
use Rattle.imap_mailbox.specs.declared.parts.PartsError.TheVariants.{Bad, Memory}
use Rattle.imap_mailbox.specs.Held.{HaveFewKeywords, lists, list_at}
use Rattle.imap_mailbox.specs.Own.{Own, own_at, with_kept}
use Rattle.imap_mailbox.specs.Owned.{Owned}
use Rattle.imap_mailbox.specs.Parts.{AreInPlace, AreOwn}
use Rattle.imap_mailbox.specs.Rows.{WasGiven, first_uid}
use Rattle.imap_mailbox.specs.Summary.{AreApart, Fits, count_of, given_once, uids_in, gone_uids}
use Rattle.imap_mailbox.specs.Summary.{message_places, places_in}
use Rattle.imap_mailbox.specs.UserChange.{UserChange, row_of}

-- low, low + 1 and so on, up to the number before `high`
abbrev pub IsRun : (low high : ℕ) → List ℕ → Type 0
IsRun low high [] = low ≡ high
IsRun low high (n ∷ ns) = (n ≡ low) × IsRun (low + 1) high ns

-- each UID that was given is there or gone, once, and no other is
abbrev pub HaveAllUids : (next : ℕ) → List Message → List GoneMessage → Type 0
HaveAllUids next messages gone = (first_uid ≤ next) × ((uid : ℕ)
    → count_of uid (uids_in messages) + count_of uid (gone_uids gone) ≡ given_once next uid)

-- the places are those of shared events
abbrev pub ArePlacesOf : (shared : ℕ) → List Message → List GoneMessage → Type 0
ArePlacesOf shared messages gone = (place : ℕ)
    → 0 < count_of place (message_places messages) + count_of place (places_in gone) → place < shared

pub record AreMessages (next shared : ℕ) (messages : List Message) (gone : List GoneMessage) : Type 0 where
  pub few : shared ≤ max_events
  pub uids : HaveAllUids next messages gone
  pub apart : AreApart messages gone
  pub places : ArePlacesOf shared messages gone
  pub keywords : HaveFewKeywords messages

-- whether it holds, or memory ran out
abbrev pub Checks : Type 0 → Result (Unit {0}) PartsError → Type 0
Checks P (Ok done) = P
Checks P (Err Bad) = P → ⊥
Checks P (Err Memory) = Unit {0}

-- each user's own changes fit the mailbox
abbrev pub FitAll : (next shared : ℕ) → users.Users Own → Type 0
FitAll next shared own =
    (user : List ℕ) → Fits shared next (own_at own user) × (length (own_at own user).befores ≤ max_events)

-- the own changes of all users, which fit the mailbox; or there are none that fit; or memory ran out
abbrev pub RestoresOwn :
    (next shared : ℕ) → List UserChange → Result (users.Rows Owned) PartsError → Type 0
RestoresOwn next shared changes (Ok own) = AreOwn shared changes (lists own) × FitAll next shared (lists own)
RestoresOwn next shared changes (Err Bad) =
    (own : users.Users Own) → AreOwn shared changes own → FitAll next shared own → ⊥
RestoresOwn next shared changes (Err Memory) = Unit {0}

-- the change may be the next that is kept of a user with these own changes
pub record MayFollow (next shared : ℕ) (own : Own) (c : UserChange) : Type 0 where
  pub place : length own.befores ≤ c.place
  pub few : c.place < max_events
  pub order : AreInOrder 0 c.change.before own.befores
  pub within : c.change.before ≤ shared
  pub given : WasGiven next c.change.uid

-- the change was appended to those of its user; or it may not follow them; or memory ran out
abbrev pub Appends :
    (next shared : ℕ) (c : UserChange) (old new : users.Rows Owned) → Result (Unit {0}) PartsError → Type 0
Appends next shared c old new (Ok done) =
    MayFollow next shared (list_at old c.user) c
    × (lists new ≡ fin.insert (lists old) c.user (with_kept (row_of c) (list_at old c.user)))
Appends next shared c old new (Err Bad) = MayFollow next shared (list_at old c.user) c → ⊥
Appends next shared c old new (Err Memory) = Unit {0}

-- all were appended; or there are no own changes, which fit the mailbox, of which they are; or memory ran out
abbrev pub AppendsAll :
    (next shared : ℕ) → List UserChange → users.Rows Owned → Result (Unit {0}) PartsError → Type 0
AppendsAll next shared changes new (Ok done) = AreInPlace shared changes (lists new) × FitAll next shared (lists new)
AppendsAll next shared changes new (Err Bad) =
    (own : users.Users Own) → AreInPlace shared changes own → FitAll next shared own → ⊥
AppendsAll next shared changes new (Err Memory) = Unit {0}
