-- Names of mailboxes in modified UTF-7, and the command that the server sees in place of one with such names
-- (RFC 3501, section 5.1.3).
use Rattle.std.specs.Prelude.{ℕ, Bool, false, ◌==◌, List, [], ◌∷◌, map, Option, None, is_some, if◌then◌else◌}
use Rattle.std.specs.List.{list_any}
use Rattle.imap_commands.specs.declared.command.Command.{Command}
use Rattle.imap_commands.specs.declared.command.Command.TheVariants as command
use Rattle.imap_commands.specs.declared.commands.list.Patterns.{Patterns}
use Rattle.imap_commands.specs.declared.commands.list.Patterns.TheVariants.{One, Many}
use Rattle.imap_commands.specs.declared.request.Request.{Request}
use Rattle.imap_commands.specs.declared.request.Request.TheVariants as request
use Rattle.imap_commands.specs.Spells.{request_read}
use Rattle.imap_commands.specs.Writing.{written}
use Rattle.imap_lex.specs.declared.frame.Frame.{Frame}
use Rattle.imap_lex.specs.declared.frame.Frame.TheVariants.{Whole, Continue, Reject, Hangup}
use Rattle.imap_utf7.specs.Spelling.{decoded}
use Rattle.imap_rev1_frames.specs.Rewritten.{instead_octets}

-- ---- a name

abbrev pub is_ampersand : ℕ → Bool
is_ampersand octet = octet == 38

-- The text of a name, if this is its spelling and another one than the text. Names without `&`, and those that
-- are no modified UTF-7, are taken as they are.
abbrev pub other_name : (name : List ℕ) → Option (List ℕ)
other_name name = if list_any is_ampersand name then decoded name else None

abbrev pub has_other : (name : List ℕ) → Bool
has_other name = is_some (other_name name)

-- what the server sees in place of a name
abbrev pub name_for : (name : List ℕ) → List ℕ
name_for name = instead_octets (other_name name) name

-- ---- a command

-- The wildcards of a pattern are characters of its text.
abbrev pub pattern_names : Patterns → List (List ℕ)
pattern_names (One pattern) = pattern ∷ []
pattern_names (Many patterns) = patterns

-- the name in a command of one name
abbrev pub single_name : Command → List (List ℕ)
single_name (command.Select mailbox given) = mailbox ∷ []
single_name (command.Examine mailbox given) = mailbox ∷ []
single_name (command.Create mailbox) = mailbox ∷ []
single_name (command.Delete mailbox) = mailbox ∷ []
single_name (command.Subscribe mailbox) = mailbox ∷ []
single_name (command.Unsubscribe mailbox) = mailbox ∷ []
single_name (command.Status mailbox items) = mailbox ∷ []
single_name (command.Append mailbox flags moment message) = mailbox ∷ []
single_name (command.SetAcl mailbox identifier rights) = mailbox ∷ []
single_name (command.DeleteAcl mailbox identifier) = mailbox ∷ []
single_name (command.GetAcl mailbox) = mailbox ∷ []
single_name (command.ListRights mailbox identifier) = mailbox ∷ []
single_name (command.MyRights mailbox) = mailbox ∷ []
single_name (command.Copy numbering messages mailbox) = mailbox ∷ []
single_name (command.Move numbering messages mailbox) = mailbox ∷ []
single_name _ = []

-- the names in a command
abbrev pub names_of : Command → List (List ℕ)
names_of (command.Rename from to) = from ∷ to ∷ []
names_of (command.List selection reference wanted returns) = reference ∷ pattern_names wanted
names_of c = single_name c

abbrev pub has_names : Command → Bool
has_names c = list_any has_other (names_of c)

abbrev pub patterns_for : Patterns → Patterns
patterns_for (One pattern) = One (name_for pattern)
patterns_for (Many patterns) = Many (map name_for patterns)

-- a command of one name, with the text of this name
abbrev pub single_renamed : Command → Command
single_renamed (command.Select mailbox given) = command.Select (name_for mailbox) given
single_renamed (command.Examine mailbox given) = command.Examine (name_for mailbox) given
single_renamed (command.Create mailbox) = command.Create (name_for mailbox)
single_renamed (command.Delete mailbox) = command.Delete (name_for mailbox)
single_renamed (command.Subscribe mailbox) = command.Subscribe (name_for mailbox)
single_renamed (command.Unsubscribe mailbox) = command.Unsubscribe (name_for mailbox)
single_renamed (command.Status mailbox items) = command.Status (name_for mailbox) items
single_renamed (command.Append mailbox flags moment message) =
    command.Append (name_for mailbox) flags moment message
single_renamed (command.SetAcl mailbox identifier rights) =
    command.SetAcl (name_for mailbox) identifier rights
single_renamed (command.DeleteAcl mailbox identifier) = command.DeleteAcl (name_for mailbox) identifier
single_renamed (command.GetAcl mailbox) = command.GetAcl (name_for mailbox)
single_renamed (command.ListRights mailbox identifier) = command.ListRights (name_for mailbox) identifier
single_renamed (command.MyRights mailbox) = command.MyRights (name_for mailbox)
single_renamed (command.Copy numbering messages mailbox) = command.Copy numbering messages (name_for mailbox)
single_renamed (command.Move numbering messages mailbox) = command.Move numbering messages (name_for mailbox)
single_renamed c = c

-- the command with the texts of its names
abbrev pub renamed : Command → Command
renamed (command.Rename from to) = command.Rename (name_for from) (name_for to)
renamed (command.List selection reference wanted returns) =
    command.List selection (name_for reference) (patterns_for wanted) returns
renamed c = single_renamed c

abbrev pub request_has_names : Request → Bool
request_has_names (request.Command tag c) = has_names c
request_has_names _ = false

abbrev pub request_renamed : Request → Request
request_renamed (request.Command tag c) = request.Command tag (renamed c)
request_renamed r = r

-- ---- a frame

-- the command in place of the request's, if a name in it is spelt in modified UTF-7
abbrev pub other_command : Request → Option (List ℕ)
other_command r = if request_has_names r then written (request_renamed r) else None

abbrev pub renamed_octets : List ℕ → List ℕ
renamed_octets octets = instead_octets (other_command (request_read octets)) octets

abbrev pub renamed_frame : Frame → Frame
renamed_frame (Whole octets) = Whole (renamed_octets octets)
renamed_frame Continue = Continue
renamed_frame (Reject tag) = Reject tag
renamed_frame Hangup = Hangup
