-- What a session does by a frame of its client's.
use Rattle.std.specs.Prelude.{ℕ, Bool, List, [], ◌∷◌, ◌++◌, codes, Option, Some, None, if◌then◌else◌}
use Rattle.std.specs.Str.{str_eq_ignore_ascii_case}
use Rattle.imap_lex.specs.declared.frame.Frame.{Frame}
use Rattle.imap_lex.specs.declared.frame.Frame.TheVariants as frame
use Rattle.imap_commands.specs.Spells.{request_read}
use Rattle.imap_commands.specs.declared.request.Request.{Request}
use Rattle.imap_commands.specs.declared.request.Request.TheVariants as request
use Rattle.imap_core.specs.declared.step.Act.{Act}
use Rattle.imap_core.specs.declared.step.Act.TheVariants as act

-- the line that ends IDLE (RFC 2177), in any ASCII case
abbrev pub is_done : List ℕ → Bool
is_done octets = str_eq_ignore_ascii_case octets (codes "DONE" ++ (13 ∷ 10 ∷ []))

abbrev pub act_of_command : List ℕ → Act
act_of_command octets = if is_done octets then act.Done else act.Do (request_read octets)

-- a command of which a literal was refused before it came
abbrev pub rejected : Option (List ℕ) → Request
rejected None = request.Malformed None
rejected (Some tag) = request.TooBig tag

-- the machine has no part in a continuation request (RFC 9051, section 7) and in a hangup
abbrev pub act_of_frame : Frame → Option Act
act_of_frame (frame.Whole octets) = Some (act_of_command octets)
act_of_frame (frame.Reject tag) = Some (act.Do (rejected tag))
act_of_frame frame.Continue = None
act_of_frame frame.Hangup = None
