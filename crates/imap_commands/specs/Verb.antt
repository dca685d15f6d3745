-- The names of commands, in capitals (RFC 9051, section 9; RFC 4314, section 3).
use Rattle.std.specs.Prelude.{ℕ, List, [], ◌∷◌, codes}
use Rattle.imap_syntax.specs.declared.set.Numbering.{Numbering}
use Rattle.imap_syntax.specs.declared.set.Numbering.TheVariants.{Sequence, Uid}
use Rattle.imap_commands.specs.declared.command.Command.{Command}
use Rattle.imap_commands.specs.declared.command.Command.TheVariants as command
use Rattle.imap_commands.specs.declared.verb.Verb.{Verb}
use Rattle.imap_commands.specs.declared.verb.Verb.TheVariants as verb
use Rattle.imap_commands.specs.declared.verb.UidVerb.{UidVerb}
use Rattle.imap_commands.specs.declared.verb.UidVerb.TheVariants as uid

abbrev pub verb_name : Verb → List ℕ
verb_name verb.Append = codes "APPEND"
verb_name verb.Authenticate = codes "AUTHENTICATE"
verb_name verb.Capability = codes "CAPABILITY"
verb_name verb.Close = codes "CLOSE"
verb_name verb.Copy = codes "COPY"
verb_name verb.Create = codes "CREATE"
verb_name verb.Delete = codes "DELETE"
verb_name verb.DeleteAcl = codes "DELETEACL"
verb_name verb.Enable = codes "ENABLE"
verb_name verb.Examine = codes "EXAMINE"
verb_name verb.Expunge = codes "EXPUNGE"
verb_name verb.Fetch = codes "FETCH"
verb_name verb.GetAcl = codes "GETACL"
verb_name verb.Idle = codes "IDLE"
verb_name verb.List = codes "LIST"
verb_name verb.ListRights = codes "LISTRIGHTS"
verb_name verb.Login = codes "LOGIN"
verb_name verb.Logout = codes "LOGOUT"
verb_name verb.Move = codes "MOVE"
verb_name verb.MyRights = codes "MYRIGHTS"
verb_name verb.Namespace = codes "NAMESPACE"
verb_name verb.Noop = codes "NOOP"
verb_name verb.Rename = codes "RENAME"
verb_name verb.Search = codes "SEARCH"
verb_name verb.Select = codes "SELECT"
verb_name verb.SetAcl = codes "SETACL"
verb_name verb.StartTls = codes "STARTTLS"
verb_name verb.Status = codes "STATUS"
verb_name verb.Store = codes "STORE"
verb_name verb.Subscribe = codes "SUBSCRIBE"
verb_name verb.Uid = codes "UID"
verb_name verb.Unselect = codes "UNSELECT"
verb_name verb.Unsubscribe = codes "UNSUBSCRIBE"

abbrev pub uid_verb_name : UidVerb → List ℕ
uid_verb_name uid.Copy = codes "COPY"
uid_verb_name uid.Expunge = codes "EXPUNGE"
uid_verb_name uid.Fetch = codes "FETCH"
uid_verb_name uid.Move = codes "MOVE"
uid_verb_name uid.Search = codes "SEARCH"
uid_verb_name uid.Store = codes "STORE"

-- UID for a command by UIDs
abbrev pub by_numbering : Numbering → Verb → Verb
by_numbering Sequence v = v
by_numbering Uid v = verb.Uid

-- the word after UID, with a space before it
abbrev pub uid_text : Numbering → UidVerb → List ℕ
uid_text Sequence v = []
uid_text Uid v = 32 ∷ uid_verb_name v

-- the first word of a command
abbrev pub verb_of : Command → Verb
verb_of command.Authenticate = verb.Login
verb_of (command.Select mailbox given) = verb.Select
verb_of (command.Examine mailbox given) = verb.Examine
verb_of (command.List selection reference wanted returns) = verb.List
verb_of (command.Append mailbox flags moment message) = verb.Append
verb_of (command.Fetch numbering messages items changed_since vanished) = by_numbering numbering verb.Fetch
verb_of (command.Search numbering returns charset tokens) = by_numbering numbering verb.Search
verb_of command.Capability = verb.Capability
verb_of command.Noop = verb.Noop
verb_of command.Logout = verb.Logout
verb_of command.Namespace = verb.Namespace
verb_of command.Idle = verb.Idle
verb_of command.Close = verb.Close
verb_of command.Unselect = verb.Unselect
verb_of (command.Enable capabilities) = verb.Enable
verb_of (command.Create mailbox) = verb.Create
verb_of (command.Delete mailbox) = verb.Delete
verb_of (command.Rename from to) = verb.Rename
verb_of (command.Subscribe mailbox) = verb.Subscribe
verb_of (command.Unsubscribe mailbox) = verb.Unsubscribe
verb_of (command.Status mailbox items) = verb.Status
verb_of (command.SetAcl mailbox identifier rights) = verb.SetAcl
verb_of (command.DeleteAcl mailbox identifier) = verb.DeleteAcl
verb_of (command.GetAcl mailbox) = verb.GetAcl
verb_of (command.ListRights mailbox identifier) = verb.ListRights
verb_of (command.MyRights mailbox) = verb.MyRights
verb_of command.Expunge = verb.Expunge
verb_of (command.UidExpunge messages) = verb.Uid
verb_of (command.Store numbering messages spec) = by_numbering numbering verb.Store
verb_of (command.Copy numbering messages mailbox) = by_numbering numbering verb.Copy
verb_of (command.Move numbering messages mailbox) = by_numbering numbering verb.Move
