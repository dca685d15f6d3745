-- A session that has lost its mailbox.
use Rattle.std.specs.Prelude.{ℕ, Bool, true, false, not, ◌==◌, Option, Some, None}
use Rattle.imap_listing.specs.ReadableMailbox.{Readable}
use Rattle.imap_listing.specs.Readable.{readable_in}
use Rattle.imap_listing.specs.View.{View}
use Rattle.imap_session.specs.State.{Selection, SessionState}

abbrev pub has_other_validity : (validity : ℕ) → Option Readable → Bool
has_other_validity validity None = true
has_other_validity validity (Some mailbox) = not (mailbox.validity == validity)

abbrev pub is_lost_selection : View → Option Selection → Bool
is_lost_selection view None = false
is_lost_selection view (Some s) = has_other_validity s.validity (readable_in view s.name)

-- The user may not read the selected mailbox any more, or it is another one than was selected. Whatever the
-- cause is, it makes no difference.
abbrev pub is_lost : View → SessionState → Bool
is_lost view own = is_lost_selection view own.selected
