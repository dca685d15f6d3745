-- The frame that is written of a request.
use Rattle.std.specs.Prelude.{ℕ, Bool, true, false, ◌&&◌, List, [], ◌∷◌, ◌++◌}
use Rattle.std.specs.Prelude.{Option, Some, None, if◌then◌else◌}
use Rattle.imap_lex.specs.Chars.{crlf}
use Rattle.imap_lex.specs.CommandTag.{is_tag}
use Rattle.imap_commands.specs.declared.command.Command.{Command}
use Rattle.imap_commands.specs.declared.command.Command.TheVariants as command
use Rattle.imap_commands.specs.declared.request.Request.{Request}
use Rattle.imap_commands.specs.declared.request.Request.TheVariants as request
use Rattle.imap_syntax.specs.Writing.{separated}
use Rattle.imap_syntax.specs.Written.{atom}
use Rattle.imap_commands.specs.Verb.{verb_name, verb_of}
use Rattle.imap_commands.specs.commands.Append.{append_fits, append_text}
use Rattle.imap_commands.specs.commands.Enable.{enable_text}
use Rattle.imap_commands.specs.commands.List.{list_fits, list_text}
use Rattle.imap_commands.specs.commands.Mailboxes.{mailbox_fits, mailbox_text}
use Rattle.imap_commands.specs.commands.Select.{selecting_fits, selecting_text}

-- some text spells the arguments
abbrev pub arguments_fit : Command → Bool
arguments_fit (command.Select mailbox given) = selecting_fits mailbox given
arguments_fit (command.Examine mailbox given) = selecting_fits mailbox given
arguments_fit (command.List selection reference wanted returns) = list_fits selection reference wanted returns
arguments_fit (command.Append mailbox flags moment message) = append_fits mailbox flags moment message
arguments_fit (command.Enable capabilities) = (separated 32 atom).fits capabilities
arguments_fit c = mailbox_fits c

-- all that stands between the first word of the command and its last CRLF
abbrev pub arguments_text : Command → List ℕ
arguments_text (command.Select mailbox given) = selecting_text mailbox given
arguments_text (command.Examine mailbox given) = selecting_text mailbox given
arguments_text (command.List selection reference wanted returns) =
    list_text selection reference wanted returns
arguments_text (command.Append mailbox flags moment message) = append_text mailbox flags moment message
arguments_text (command.Enable capabilities) = enable_text capabilities
arguments_text c = mailbox_text c

abbrev pub command_text : (tag : List ℕ) → Command → List ℕ
command_text tag c = tag ++ (32 ∷ (verb_name (verb_of c) ++ (arguments_text c ++ crlf)))

-- ---- requests

abbrev pub request_fits : Request → Bool
request_fits (request.Command name c) = is_tag name && arguments_fit c
request_fits (request.Malformed (Some name)) = is_tag name
request_fits (request.Malformed None) = true
request_fits (request.TooBig name) = false

-- A line that is a tag alone is malformed, and so is an empty one.
abbrev pub request_text : Request → List ℕ
request_text (request.Command name c) = command_text name c
request_text (request.Malformed (Some name)) = name ++ crlf
request_text (request.Malformed None) = crlf
request_text (request.TooBig name) = []

unfoldable pub written : Request → Option (List ℕ)
written r = if request_fits r then Some (request_text r) else None
