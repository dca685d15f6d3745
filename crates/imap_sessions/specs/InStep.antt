-- A session in step with its mailbox (RFC 7162, section 3.1.2.1, HIGHESTMODSEQ).
use Rattle.std.specs.Prelude.{◌≡◌, ℕ, ◌≤◌, List, Option, Some, None}
use Rattle.std.specs.FinMap as map
use Rattle.imap_mailbox.specs.Shown.{content_of}
use Rattle.imap_session.specs.ByUid.{IsBroughtByUid}
use Rattle.imap_session.specs.State.{Selection}
use Rattle.imap_world.specs.Mailbox.{Mailbox}
use Rattle.imap_world.specs.World.{World, epoch}

-- A UIDVALIDITY that was used is selected. While the mailbox of the name has it, the session was told all of the
-- mailbox up to a mod-sequence, but for expunges that were held back.
pub record IsSelectedInStep (world : World) (user : List ℕ) (s : Selection) : Type 0 where
  pub used : s.validity ≤ epoch world.epochs s.name
  pub brought : (mailbox : Mailbox)
      → map.get world.mailboxes s.name ≡ Some mailbox → mailbox.validity ≡ s.validity
      → IsBroughtByUid s.up_to s.known (content_of user mailbox.messages)

abbrev pub IsInStep : World → (user : List ℕ) → Option Selection → Type 0
IsInStep world user None = Unit {0}
IsInStep world user (Some s) = IsSelectedInStep world user s
