-- A command is read as one frame.
use Rattle.std.proofs.Common.{◌≡◌, ◌∙◌, ap, sym, ℕ, ◌+◌, ◌-◌, ◌≤◌, List, [], ◌∷◌, ◌++◌, append-nil, length, arith}
use Rattle.imap_lex.specs.Framing.{Framing, awaiting, beginning, line, Outcome, run}
use Rattle.imap_lex.specs.Limits.{max_command_octets}
use Rattle.imap_lex.specs.Stream.{Section, command, in_line, HasNoCrlf, inside, outside, sections_octets, sections_frames, Reading, IsReading, octets_of, frames_of, ending_left}
use Rattle.imap_lex.specs.declared.frame.Frame.{Frame}
use Rattle.imap_lex.specs.declared.frame.Frame.TheVariants as frame
use Rattle.imap_lex.proofs.FramesRead.{frames_as_read}
use Rattle.imap_rev1.specs.Laws.{IsCommand, IsReadAsOne}

no_crlf : HasNoCrlf []
no_crlf [] back e = cc
no_crlf (x ∷ front) back e = cc

abbrev reading : List Section → List ℕ → Reading
reading sections last = record { items = command sections last ∷ []; ending = in_line [] [] }

is_reading : (limit : ℕ) (octets : List ℕ) (sections : List Section) (last : List ℕ) → IsCommand octets sections last → outside sections + length last ≤ max_command_octets → inside sections ≤ limit → IsReading limit (reading sections last)
is_reading limit octets sections last is out within =
    let small : 0 ≤ max_command_octets = omega arith in
    let none : 0 ≤ limit = omega arith in
    (((record { each = is.each; outside = out; inside = omega arith }, is.ends), tt), (record { each = tt; outside = small; inside = none }, no_crlf))

same_octets : (sections : List Section) (last : List ℕ) → octets_of (reading sections last) ≡ sections_octets sections ++ last
same_octets sections last = append-nil _ ∙ append-nil _

same_frames : (sections : List Section) (last : List ℕ) → frames_of (reading sections last) ≡ sections_frames sections ++ frame.Whole (sections_octets sections ++ last) ∷ []
same_frames sections last = append-nil _ ∙ append-nil _

abbrev left_with : ℕ → ℕ → Framing
left_with limit room = awaiting limit (record { octets = []; part = line []; outside = 0; room = room })

same_end : (limit : ℕ) → ending_left limit (in_line [] []) ≡ beginning limit
same_end limit = let all : limit - 0 ≡ limit = omega arith in ap (left_with limit) all

abbrev outcome : List Frame → Framing → Outcome
outcome frames next = record { frames = frames; next = next }

pub is_read_as_one : IsReadAsOne
is_read_as_one limit octets sections last is out within =
    let r = reading sections last in
    ap (run (beginning limit)) (is.spelt ∙ sym (same_octets sections last))
    ∙ frames_as_read limit r (is_reading limit octets sections last is out within)
    ∙ ap (outcome (frames_of r)) (same_end limit)
    ∙ ap (λ (f : List Frame). outcome f (beginning limit)) (same_frames sections last)
    ∙ ap (λ (o : List ℕ). outcome (sections_frames sections ++ frame.Whole o ∷ []) (beginning limit)) (sym is.spelt)
