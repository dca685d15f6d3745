-- What a store keeps of a mailbox, and the mailbox that it stands for.
use Rattle.std.specs.Prelude.{◌≡◌, List, ℕ, Result, Ok, Err, IsPermutation}
use Rattle.imap_user_map.specs.Rows.{Users}
use Rattle.imap_mailbox.specs.declared.parts.MailboxParts.{MailboxParts}
use Rattle.imap_mailbox.specs.declared.parts.PartsError.{PartsError}
use Rattle.imap_mailbox.specs.declared.parts.PartsError.TheVariants.{Bad, Memory}
use Rattle.imap_mailbox.specs.Held.{Held, IsKept, summary_in}
use Rattle.imap_mailbox.specs.KeptRows.{AreKept}
use Rattle.imap_mailbox.specs.Own.{Own, own_at, found_in}
use Rattle.imap_mailbox.specs.Summary.{Summary}
use Rattle.imap_mailbox.specs.UserChange.{UserChange, rows_of_user}

-- each user's changes are in order, after at most `shared` shared events, and of them the user's own changes are found
abbrev pub AreInPlace : (shared : ℕ) → List UserChange → Users Own → Type 0
AreInPlace shared changes own = (user : List ℕ) →
    let kept = rows_of_user user changes in
    AreKept 0 0 shared kept × (found_in kept ≡ own_at own user)

-- put in some order, they are the own changes of all users that are kept
abbrev pub AreOwn : (shared : ℕ) → List UserChange → Users Own → Type 0
AreOwn shared changes own =
    (ordered : List UserChange) × IsPermutation changes ordered × AreInPlace shared ordered own

-- the parts are those of a mailbox, whatever their order
pub record StandFor (parts : MailboxParts) (s : Summary) : Type 0 where
  pub next : s.next ≡ parts.next
  pub shared : s.shared ≡ parts.shared
  pub messages : IsPermutation parts.messages.items s.messages
  pub gone : IsPermutation parts.gone.items s.gone
  pub own : AreOwn parts.shared parts.own.items s.own

-- the mailbox for which the parts stand; or they are bad, and stand for none; or memory ran out
abbrev pub Restores : MailboxParts → Result Held PartsError → Type 0
Restores parts (Ok mailbox) = StandFor parts (summary_in mailbox)
Restores parts (Err Bad) = (s : Summary) → IsKept s → StandFor parts s → ⊥
Restores parts (Err Memory) = Unit {0}

-- parts stand for one mailbox at most
abbrev pub StandForOne : Type 0
StandForOne =
    (parts : MailboxParts) (s t : Summary) → IsKept s → IsKept t → StandFor parts s → StandFor parts t → s ≡ t
