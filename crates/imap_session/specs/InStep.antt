-- A session in step with its mailbox, and when it has nothing to be told (RFC 7162, section 3.1.2.1,
-- HIGHESTMODSEQ).
use Rattle.std.specs.Prelude.{◌≡◌, ℕ, ◌<◌, ◌≤◌, ◌⊎◌, Bool, false, List, [], length}
use Rattle.imap_mailbox.specs.Rows.{Row}
use Rattle.imap_mailbox.specs.Shown.{Content}
use Rattle.imap_mailbox.specs.Brought.{IsOrdered, highest_in}
use Rattle.imap_session.specs.declared.options.NoticeOptions.{NoticeOptions}
use Rattle.imap_session.specs.ByUid.{IsBroughtByUid}
use Rattle.imap_session.specs.Compared.{comparisons, any_changed, known_after}
use Rattle.imap_session.specs.Notices.{notices}
use Rattle.imap_session.specs.Held.{uid_limit}

-- the session knows the messages with the UIDs, and was told all up to the mod-sequence `up_to` of the mailbox c,
-- but for messages that are expunged. The mailbox has these rows and this HIGHESTMODSEQ
pub record IsInStep (up_to highest : ℕ) (uids : List ℕ) (rows : List Row) (c : Content) : Type 0 where
  pub shows : c.rows ≡ rows
  pub ends : highest_in c ≡ highest
  pub ordered : IsOrdered c
  pub brought : IsBroughtByUid up_to uids c
  pub few : c.next < uid_limit

-- expunges may not be told, or none is to be told
abbrev pub NoneHeldBack : Bool → (uids : List ℕ) → List Row → Type 0
NoneHeldBack expunges uids rows = (expunges ≡ false) ⊎ (length uids ≡ length rows)

pub record IsQuiet (o : NoticeOptions) (up_to : ℕ) (uids : List ℕ) (rows : List Row) : Type 0 where
  pub lines : (told : List ℕ) → notices o up_to told uids rows ≡ []
  pub list : known_after o.expunges uids rows ≡ uids
  pub changed : any_changed up_to (comparisons uids rows) ≡ false

-- a session in step that was told all up to HIGHESTMODSEQ, and knows as many messages as there are, is told
-- nothing
abbrev pub InStepIsQuiet : Type 0
InStepIsQuiet =
    (o : NoticeOptions) (up_to highest : ℕ) (uids : List ℕ) (rows : List Row) (c : Content)
    → IsInStep up_to highest uids rows c → highest ≤ up_to → NoneHeldBack o.expunges uids rows
    → IsQuiet o up_to uids rows

-- after notices the session is in step, up to HIGHESTMODSEQ
abbrev pub NoticesKeepInStep : Type 0
NoticesKeepInStep =
    (expunges : Bool) (up_to highest : ℕ) (uids : List ℕ) (rows : List Row) (c : Content)
    → IsInStep up_to highest uids rows c
    → IsInStep highest highest (known_after expunges uids rows) rows c
