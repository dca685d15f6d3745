-- A framer returns a written request as one frame (RFC 9051, sections 2.2.1 and 4.3).
use Rattle.std.specs.Prelude.{◌≡◌, ◌≤◌, ℕ, ◌+◌, true, List, [], ◌∷◌, ◌++◌, length, map, Some}
use Rattle.std.specs.List.{AllByRecursion}
use Rattle.imap_lex.specs.declared.frame.Frame.TheVariants.{Whole, Continue}
use Rattle.imap_lex.specs.Limits.{max_command_octets}
use Rattle.imap_lex.specs.Framing.{awaiting, start, run}
use Rattle.imap_lex.specs.Stream.{Section, IsSection, IsLastLine, sections_octets, outside, inside}
use Rattle.imap_commands.specs.declared.request.Request.{Request}
use Rattle.imap_commands.specs.Writing.{written}

-- Lines that announce literals for which the client waits, each with its literal, and a last line.
pub record Framed (octets : List ℕ) : Type 0 where
  pub sections : List Section
  pub last : List ℕ
  pub each : AllByRecursion IsSection sections
  pub waits : AllByRecursion (λ s. s.mark.waits ≡ true) sections
  pub ends : IsLastLine last
  pub whole : octets ≡ sections_octets sections ++ last

-- Within the limits of a framer they bring one Whole frame, and before it Continue once for each literal.
abbrev pub IsToldWhole : (octets : List ℕ) → Framed octets → Type 0
IsToldWhole octets f =
    (limit : ℕ) → outside f.sections + length f.last ≤ max_command_octets → inside f.sections ≤ limit
    → run (awaiting limit (start limit)) octets
    ≡ record {
      frames = map (λ s. Continue) f.sections ++ Whole octets ∷ [];
      next = awaiting limit (start limit);
    }

abbrev pub EachIsTold : Type 0
EachIsTold =
    (r : Request) (octets : List ℕ) → written r ≡ Some octets
    → Framed octets × ((f : Framed octets) → IsToldWhole octets f)
