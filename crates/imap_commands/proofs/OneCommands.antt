-- Whatever spells a command is one command of a stream.
use Rattle.std.proofs.Common.{◌≡◌, ℕ, ◌+◌, ◌-◌, ◌≤◌, List, [], ◌∷◌, ◌++◌, length, sym, ap, subst, ◌∙◌, append_assoc, arith}
use Rattle.std.specs.List.{AllByRecursion}
use Rattle.std.proofs.lemmas.List.{append-nil}
use Rattle.std.proofs.lemmas.Option.{none-some}
use Rattle.imap_lex.specs.declared.frame.Frame.{Frame}
use Rattle.imap_lex.specs.declared.frame.Frame.TheVariants.{Whole}
use Rattle.imap_lex.specs.Limits.{max_command_octets}
use Rattle.imap_lex.specs.Framing as framing
use Rattle.imap_lex.specs.Framing.{crlf, Framing, awaiting, Outcome, start, run}
use Rattle.imap_lex.specs.Stream as stream
use Rattle.imap_lex.specs.Stream.{HasNoCrlf, IsLastLine, IsShort, Section, IsSection, sections_octets, sections_frames, outside, inside, IsReading, Reading}
use Rattle.imap_lex.proofs.Marks.{marks_are_found}
use Rattle.imap_lex.proofs.FramesRead.{frames_as_read}
use Rattle.imap_commands.specs.OneCommand.{IsAnnounced, IsOneCommand, IsFramedWhole, EachCommandIsOne}
use Rattle.imap_commands.proofs.CommandTexts.{IsFront, command_front}
use Rattle.imap_commands.proofs.Lines.{is_line}

one_command : (frame front : List ℕ) → IsFront front → frame ≡ front ++ crlf → IsOneCommand frame
one_command frame front f e =
    let ends : IsLastLine (f.last ++ crlf) = record { is_line = is_line f.last f.unbroken; unmarked = λ m marked. none-some m (sym f.unmarked ∙ marks_are_found (f.last ++ crlf) m marked) } in
    record {
      sections = f.sections;
      last = f.last ++ crlf;
      each = f.each;
      ends = ends;
      whole = e ∙ ap (λ (t : List ℕ). t ++ crlf) f.whole ∙ append_assoc (sections_octets f.sections) f.last crlf;
    }

sections_are : (ss : List Section) → AllByRecursion IsAnnounced ss → AllByRecursion (λ s. IsShort s.mark) ss → AllByRecursion IsSection ss
sections_are [] h k = tt
sections_are (s ∷ ss) h k = (record { marked = h.0.marked; short = k.0; size = h.0.size }, sections_are ss h.1 k.1)

nothing : HasNoCrlf []
nothing [] back e = cc
nothing (x ∷ front) back e = cc

abbrev outcome : List Frame → Framing → Outcome
outcome frames next = record { frames = frames; next = next }

at_start : (limit : ℕ) → stream.ending_left limit (stream.in_line [] []) ≡ awaiting limit (start limit)
at_start limit =
    let with_room : ℕ → Framing = λ n. awaiting limit (record { octets = []; part = framing.line []; outside = 0; room = n }) in
    let room : limit - 0 ≡ limit = omega arith in
    ap with_room room

framed_by : (limit : ℕ) (ss : List Section) (last : List ℕ) → AllByRecursion IsSection ss → IsLastLine last → outside ss + length last ≤ max_command_octets → inside ss ≤ limit
    → run (awaiting limit (start limit)) (sections_octets ss ++ last) ≡ outcome (sections_frames ss ++ Whole (sections_octets ss ++ last) ∷ []) (awaiting limit (start limit))
framed_by limit ss last each ends few small =
    let octets = sections_octets ss ++ last in
    let reading : Reading = record { items = stream.command ss last ∷ []; ending = stream.in_line [] [] } in
    let begun : stream.IsBegun limit ss (length last) 0 = record { each = each; outside = few; inside = omega arith } in
    let none : stream.IsBegun limit [] 0 0 = record { each = tt; outside = omega arith; inside = omega arith } in
    let is : IsReading limit reading = (((begun, ends), tt), (none, nothing)) in
    let bare : (octets ++ []) ++ [] ≡ octets = append-nil (octets ++ []) ∙ append-nil octets in
    let frames = sections_frames ss ++ Whole octets ∷ [] in
    let told : (frames ++ []) ++ [] ≡ frames = append-nil (frames ++ []) ∙ append-nil frames in
    ap (run (awaiting limit (start limit))) (sym bare) ∙ frames_as_read limit reading is ∙ ap (λ (f : List Frame). outcome f (stream.ending_left limit (stream.in_line [] []))) told ∙ ap (outcome frames) (at_start limit)

framed_whole : (octets : List ℕ) (f : IsOneCommand octets) → IsFramedWhole octets f
framed_whole octets f limit short few small =
    subst (λ (t : List ℕ). run (awaiting limit (start limit)) t ≡ outcome (sections_frames f.sections ++ Whole t ∷ []) (awaiting limit (start limit))) (sym f.whole)
    (framed_by limit f.sections f.last (sections_are f.sections f.each short) f.ends few small)

pub each_is_one : EachCommandIsOne
each_is_one frame tag c h =
    let t = command_front frame (tag, c) h in
    let f = one_command frame t.0 t.1 t.2 in
    (f, framed_whole frame f)
