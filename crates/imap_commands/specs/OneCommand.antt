-- Whatever spells a command is one command of a stream (RFC 9051, sections 2.2.1, 4.3 and 9).
use Rattle.std.specs.Prelude.{◌≡◌, ◌≤◌, ℕ, ◌+◌, List, [], ◌∷◌, ◌++◌, length}
use Rattle.std.specs.List.{AllByRecursion}
use Rattle.imap_lex.specs.declared.frame.Frame.TheVariants.{Whole}
use Rattle.imap_lex.specs.Framing.{awaiting, start, run}
use Rattle.imap_lex.specs.Limits.{max_command_octets}
use Rattle.imap_lex.specs.Stream.{Section, IsMarkedLine, IsLastLine, IsShort, sections_octets}
use Rattle.imap_lex.specs.Stream.{sections_frames, outside, inside}
use Rattle.imap_commands.specs.declared.command.Command.{Command}
use Rattle.imap_commands.specs.declared.request.Request.TheVariants as request
use Rattle.imap_commands.specs.Spells.{Spells}

-- a line that announces a literal, and the literal
pub record IsAnnounced (s : Section) : Type 0 where
  pub marked : IsMarkedLine s.line s.mark
  pub size : length s.literal ≡ s.mark.size

-- Lines that announce literals, each with its literal, and a last line.
pub record IsOneCommand (octets : List ℕ) : Type 0 where
  pub sections : List Section
  pub last : List ℕ
  pub each : AllByRecursion IsAnnounced sections
  pub ends : IsLastLine last
  pub whole : octets ≡ sections_octets sections ++ last

-- Within its limits a framer returns them as one Whole frame, and before it Continue for each literal for
-- which the client waits.
abbrev pub IsFramedWhole : (octets : List ℕ) → IsOneCommand octets → Type 0
IsFramedWhole octets f =
    (limit : ℕ) → AllByRecursion (λ s. IsShort s.mark) f.sections
    → outside f.sections + length f.last ≤ max_command_octets → inside f.sections ≤ limit
    → run (awaiting limit (start limit)) octets
    ≡ record { frames = sections_frames f.sections ++ Whole octets ∷ []; next = awaiting limit (start limit) }

abbrev pub EachCommandIsOne : Type 0
EachCommandIsOne =
    (frame tag : List ℕ) (c : Command) → Spells frame (request.Command tag c)
    → (f : IsOneCommand frame) × IsFramedWhole frame f
