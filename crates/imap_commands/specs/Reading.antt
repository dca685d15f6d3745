-- The grammar of commands (RFC 9051, section 9; RFC 4314, section 4).
use Rattle.std.specs.Prelude.{ℕ, List}
use Rattle.imap_commands.specs.declared.command.Command.{Command}
use Rattle.imap_commands.specs.declared.command.Command.TheVariants as commands
use Rattle.imap_commands.specs.declared.verb.Verb.{Verb}
use Rattle.imap_commands.specs.declared.verb.Verb.TheVariants as verb
use Rattle.imap_commands.specs.declared.verb.TheConstants.{VERBS}
use Rattle.imap_syntax.specs.declared.set.Numbering.TheVariants.{Sequence}
use Rattle.imap_syntax.specs.Rule.{Rule, give, ◌>>=◌, ◌>>◌, some_of, keyword}
use Rattle.imap_syntax.specs.Lexical.{is_astring_char, is_tag_char, space, crlf}
use Rattle.imap_commands.specs.Verb.{verb_name}
use Rattle.imap_commands.specs.commands.Append.{append}
use Rattle.imap_commands.specs.commands.Argument.{argument}
use Rattle.imap_commands.specs.commands.Enable.{enable}
use Rattle.imap_commands.specs.commands.List.{list}
use Rattle.imap_commands.specs.commands.Login.{any_arguments}
use Rattle.imap_commands.specs.declared.commands.mailboxes.OneMailbox.TheVariants as on
use Rattle.imap_commands.specs.commands.Mailboxes.{one_mailbox, status}
use Rattle.imap_commands.specs.commands.Messages.{copy, move, fetch, search, store, uid_command}
use Rattle.imap_commands.specs.commands.Select.{parameters}

-- the arguments of the command with this first word
abbrev pub arguments : Verb → Rule Command
arguments verb.Append = append
arguments verb.Authenticate = any_arguments
arguments verb.Capability = give commands.Capability
arguments verb.Close = give commands.Close
arguments verb.Copy = copy Sequence
arguments verb.Create = one_mailbox on.Create
arguments verb.Delete = one_mailbox on.Delete
arguments verb.DeleteAcl = do
  mailbox ← argument
  identifier ← argument
  give (commands.DeleteAcl mailbox identifier)
arguments verb.Enable = enable
arguments verb.Examine = do mailbox ← argument; given ← parameters; give (commands.Examine mailbox given)
arguments verb.Expunge = give commands.Expunge
arguments verb.Fetch = fetch Sequence
arguments verb.GetAcl = one_mailbox on.GetAcl
arguments verb.Idle = give commands.Idle
arguments verb.List = list
arguments verb.ListRights = do
  mailbox ← argument
  identifier ← argument
  give (commands.ListRights mailbox identifier)
arguments verb.Login = any_arguments
arguments verb.Logout = give commands.Logout
arguments verb.Move = move Sequence
arguments verb.MyRights = one_mailbox on.MyRights
arguments verb.Namespace = give commands.Namespace
arguments verb.Noop = give commands.Noop
arguments verb.Rename = do from ← argument; to ← argument; give (commands.Rename from to)
arguments verb.Search = search Sequence
arguments verb.Select = do mailbox ← argument; given ← parameters; give (commands.Select mailbox given)
arguments verb.SetAcl = do
  mailbox ← argument
  identifier ← argument
  rights ← argument
  give (commands.SetAcl mailbox identifier rights)
arguments verb.StartTls = any_arguments
arguments verb.Status = status
arguments verb.Store = store Sequence
arguments verb.Subscribe = one_mailbox on.Subscribe
arguments verb.Uid = uid_command
arguments verb.Unselect = give commands.Unselect
arguments verb.Unsubscribe = one_mailbox on.Unsubscribe

-- CRLF, for this value
abbrev pub ended : {A : Type 0} → A → Rule A
ended a = do
  crlf
  give a

-- SP, the name of a command, its arguments and CRLF
abbrev pub after_tag : Rule Command
after_tag = do
  space
  name ← keyword is_astring_char verb_name VERBS
  given ← arguments name
  ended given

-- `command`: tag SP .. CRLF
abbrev pub command : Rule (List ℕ × Command)
command = do
  tag ← some_of is_tag_char
  given ← after_tag
  give (tag, given)
