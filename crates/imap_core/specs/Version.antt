-- What tells one state of a session's mailbox from the next (RFC 7162, section 3.1).
use Rattle.std.specs.Prelude.{ℕ, List, Option, Some, None, option_map}
use Rattle.imap_session.specs.State.{SessionState}
use Rattle.imap_view.specs.declared.readable.Readable.{Readable}
use Rattle.imap_view.specs.View.{View}
use Rattle.imap_core.specs.declared.mailbox_version.MailboxVersion.{MailboxVersion}
use Rattle.imap_core.specs.Machine.{State, view_in}
use Rattle.imap_sessions.specs.Accounts.{session_at}
use Rattle.imap_sessions.specs.Notices.{selected_mailbox}

abbrev pub version_of : Readable → MailboxVersion
version_of mailbox = record { uid_validity = mailbox.validity; highest_mod_seq = mailbox.highest }

-- of the mailbox that the session has selected, if its user may read it
abbrev pub version_if_open : View → Option SessionState → Option MailboxVersion
version_if_open view None = None
version_if_open view (Some own) = option_map version_of (selected_mailbox view own.selected)

abbrev pub version_in : State → (user : List ℕ) → (number : ℕ) → Option MailboxVersion
version_in state user number = version_if_open (view_in state user) (session_at state.accounts user number)
