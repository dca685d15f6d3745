-- Commands on mailboxes and their access control lists (RFC 9051, section 6.3; RFC 4314, section 3).
use Rattle.std.specs.Prelude.{ℕ, Bool, ◌&&◌, List, ◌∷◌, ◌++◌}
use Rattle.imap_commands.specs.declared.command.Command.{Command}
use Rattle.imap_commands.specs.declared.command.Command.TheVariants as command
use Rattle.imap_commands.specs.declared.commands.mailboxes.OneMailbox.{OneMailbox}
use Rattle.imap_commands.specs.declared.commands.mailboxes.OneMailbox.TheVariants as on
use Rattle.imap_query.specs.declared.status.StatusItem.{StatusItem}
use Rattle.imap_syntax.specs.Rule.{Rule, give, ◌>>=◌, ◌>>◌, listed}
use Rattle.imap_syntax.specs.Lexical.{space}
use Rattle.imap_syntax.specs.Writing as writing
use Rattle.imap_syntax.specs.Written as written
use Rattle.imap_query.specs.Status.{status_item}
use Rattle.imap_query.specs.StatusWords.{status_name}
use Rattle.imap_commands.specs.commands.Argument.{argument, argument_text}
use Rattle.imap_commands.specs.commands.Messages.{messages_fit, messages_text}

-- ---- as they are read

-- the command on this mailbox
abbrev pub command_on : OneMailbox → (mailbox : List ℕ) → Command
command_on on.Create mailbox = command.Create mailbox
command_on on.Delete mailbox = command.Delete mailbox
command_on on.GetAcl mailbox = command.GetAcl mailbox
command_on on.MyRights mailbox = command.MyRights mailbox
command_on on.Subscribe mailbox = command.Subscribe mailbox
command_on on.Unsubscribe mailbox = command.Unsubscribe mailbox

-- SP mailbox, for a command of one mailbox
abbrev pub one_mailbox : OneMailbox → Rule Command
one_mailbox verb = do
  mailbox ← argument
  give (command_on verb mailbox)

abbrev pub status : Rule Command
status = do
  mailbox ← argument
  space
  items ← listed status_item
  give (command.Status mailbox items)

-- ---- as they are written

abbrev pub status_fits : (mailbox : List ℕ) → List StatusItem → Bool
status_fits mailbox items =
    written.string.fits mailbox && (writing.listed (writing.word status_name)).fits items

abbrev pub status_text : List ℕ → List StatusItem → List ℕ
status_text mailbox items =
    argument_text mailbox ++ 32 ∷ (writing.listed (writing.word status_name)).text items

-- whether the arguments of a command on mailboxes, or of one on messages, can be written
abbrev pub mailbox_fits : Command → Bool
mailbox_fits (command.Create mailbox) = written.string.fits mailbox
mailbox_fits (command.Delete mailbox) = written.string.fits mailbox
mailbox_fits (command.Rename from to) = written.string.fits from && written.string.fits to
mailbox_fits (command.Subscribe mailbox) = written.string.fits mailbox
mailbox_fits (command.Unsubscribe mailbox) = written.string.fits mailbox
mailbox_fits (command.Status mailbox items) = status_fits mailbox items
mailbox_fits (command.SetAcl mailbox identifier rights) =
    written.string.fits mailbox && (written.string.fits identifier && written.string.fits rights)
mailbox_fits (command.DeleteAcl mailbox identifier) =
    written.string.fits mailbox && written.string.fits identifier
mailbox_fits (command.GetAcl mailbox) = written.string.fits mailbox
mailbox_fits (command.ListRights mailbox identifier) =
    written.string.fits mailbox && written.string.fits identifier
mailbox_fits (command.MyRights mailbox) = written.string.fits mailbox
mailbox_fits c = messages_fit c

-- the arguments of a command on mailboxes, or of one on messages
abbrev pub mailbox_text : Command → List ℕ
mailbox_text (command.Create mailbox) = argument_text mailbox
mailbox_text (command.Delete mailbox) = argument_text mailbox
mailbox_text (command.Rename from to) = argument_text from ++ argument_text to
mailbox_text (command.Subscribe mailbox) = argument_text mailbox
mailbox_text (command.Unsubscribe mailbox) = argument_text mailbox
mailbox_text (command.Status mailbox items) = status_text mailbox items
mailbox_text (command.SetAcl mailbox identifier rights) =
    argument_text mailbox ++ (argument_text identifier ++ argument_text rights)
mailbox_text (command.DeleteAcl mailbox identifier) = argument_text mailbox ++ argument_text identifier
mailbox_text (command.GetAcl mailbox) = argument_text mailbox
mailbox_text (command.ListRights mailbox identifier) = argument_text mailbox ++ argument_text identifier
mailbox_text (command.MyRights mailbox) = argument_text mailbox
mailbox_text c = messages_text c
