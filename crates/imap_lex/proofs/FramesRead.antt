-- A framer tells a stream as it is read.
use Rattle.std.proofs.Common.{◌≡◌, ◌∙◌, ap, sym, refl, subst, ℕ, ◌+◌, ◌-◌, ◌<◌, ◌≤◌, ◌⊎◌, inl, inr, min, List, [], ◌∷◌, ◌++◌, append_assoc, append-nil, length, length-append, add-zero, zero-add, arith, Bool, true, false, Some}
use Rattle.std.specs.Prelude.{eqb}
use Rattle.std.specs.List.{flat_map, ends_with, AllByRecursion}
use Rattle.std.proofs.Math.Nat.{sub-zero}
use Rattle.std.proofs.lemmas.Bool.{le-ltb, lt-ltb}
use Rattle.imap_lex.specs.Limits.{max_command_octets, max_unasked_octets}
use Rattle.imap_lex.specs.Mark.{Announced, line_mark}
use Rattle.imap_lex.specs.Framing.{line, Begun, awaiting, crlf, start, part_of_size, before_literal, line_outcome, after, run}
use Rattle.imap_lex.specs.Stream.{IsLine, IsMarkedLine, IsShort, Section, IsSection, sections_octets, outside, inside, continue_frames, sections_frames, IsBegun, Item, command, dropped, IsItem, item_octets, item_frames, Ending, in_line, in_literal, too_long, too_large, IsEnding, ending_octets, ending_frames, ending_left, FramesAsRead}
use Rattle.imap_lex.proofs.Crlf.{ends_with-crlf}
use Rattle.imap_lex.proofs.Ends.{HasNoCrlf-line, IsUnended-none}
use Rattle.imap_lex.proofs.Marks.{marks_are_found, no_mark}
use Rattle.imap_lex.proofs.Runs.{amid, run-hung_up, run-append, run-unended, run-literal}
use Rattle.imap_lex.proofs.Steps.{run-line_end}

run-line : (limit : ℕ) (octets whole : List ℕ) (o r : ℕ) → IsLine whole → o + length whole ≤ max_command_octets →
    run (amid limit octets (line []) o r) whole ≡ line_outcome limit (record { octets = octets ++ whole; part = line whole; outside = o + length whole; room = r }) (line_mark whole)
run-line limit octets whole o r is fits =
    let text = is.ends.0 in
    let front : List ℕ = text ++ 13 ∷ [] in
    let cut : whole ≡ front ++ 10 ∷ [] = is.ends.1 ∙ sym (append_assoc text (13 ∷ []) (10 ∷ [])) in
    let longer : length (front ++ 10 ∷ []) ≡ length front + 1 = length-append front (10 ∷ []) in
    let sums : o + length (front ++ 10 ∷ []) ≡ o + length front + 1 = omega arith in
    let front_fits : o + length front + 1 ≤ max_command_octets = omega (arith, ap length cut) in
    let ends : ends_with eqb ([] ++ (front ++ 10 ∷ [])) crlf ≡ true = ends_with-crlf (front ++ 10 ∷ []) text (sym cut ∙ is.ends.1) in
    let HasFrames : List ℕ → Type 0 = λ l. run (amid limit octets (line []) o r) l ≡ line_outcome limit (record { octets = octets ++ l; part = line l; outside = o + length l; room = r }) (line_mark l) in
    let told : HasFrames (front ++ 10 ∷ []) = rw sums (run-line_end limit octets [] front o r 10 (IsUnended-none [] front (HasNoCrlf-line whole text is is.ends.1)) front_fits ends) in
    subst HasFrames (sym cut) told

-- a mark that is within the limits
line_outcome-continue_frames : (limit : ℕ) (b : Begun) (mark : Announced) → mark.size ≤ b.room → IsShort mark → (waits : Bool) → mark.waits ≡ waits →
    line_outcome limit b (Some mark) ≡ record { frames = continue_frames mark; next = awaiting limit (before_literal b mark.size) }
line_outcome-continue_frames limit b mark fits short true e = rw (e, le-ltb b.room mark.size fits) refl
line_outcome-continue_frames limit b mark fits short false e =
    let both : mark.size ≤ min b.room max_unasked_octets = omega (arith, short e) in
    rw (e, le-ltb (min b.room max_unasked_octets) mark.size both) refl

-- a marked line, and octets of its literal
run-marked : (limit : ℕ) (octets whole bs : List ℕ) (o r : ℕ) (mark : Announced) → IsMarkedLine whole mark → IsShort mark → o + length whole ≤ max_command_octets → mark.size ≤ r → length bs ≤ mark.size →
    run (amid limit octets (line []) o r) (whole ++ bs) ≡ record { frames = continue_frames mark; next = amid limit (octets ++ (whole ++ bs)) (part_of_size (mark.size - length bs)) (o + length whole) (r - mark.size) }
run-marked limit octets whole bs o r mark is short fits room within =
    let b : Begun = record { octets = octets ++ whole; part = line whole; outside = o + length whole; room = r } in
    run-append (amid limit octets (line []) o r) whole bs
    ∙ rw (
      run-line limit octets whole o r is.is_line fits,
      marks_are_found whole mark is.marked,
      line_outcome-continue_frames limit b mark room short mark.waits refl,
      run-literal limit (octets ++ whole) bs mark.size (o + length whole) (r - mark.size) within,
      append-nil,
      append_assoc octets whole bs,
    ) refl

run-sections : (limit : ℕ) (octets : List ℕ) (ss : List Section) (rest : List ℕ) (o r : ℕ) → AllByRecursion IsSection ss → o + outside ss ≤ max_command_octets → inside ss ≤ r →
    run (amid limit octets (line []) o r) (sections_octets ss ++ rest) ≡ after (sections_frames ss) (run (amid limit (octets ++ sections_octets ss) (line []) (o + outside ss) (r - inside ss)) rest)
run-sections limit octets [] rest o r all fits room = rw (append-nil, add-zero, sub-zero) refl
run-sections limit octets (s ∷ ss) rest o r all fits room =
    let is = all.0 in
    let own : List ℕ = s.line ++ s.literal in
    let line_fits : o + length s.line ≤ max_command_octets = omega arith in
    let size_fits : s.mark.size ≤ r = omega arith in
    let within : length s.literal ≤ s.mark.size = omega (arith, is.size) in
    let done : s.mark.size - length s.literal ≡ 0 = omega (arith, is.size) in
    let rest_fits : (o + length s.line) + outside ss ≤ max_command_octets = omega arith in
    let rest_room : inside ss ≤ r - s.mark.size = omega arith in
    let sum_outside : (o + length s.line) + outside ss ≡ o + (length s.line + outside ss) = omega arith in
    let sum_inside : r - s.mark.size - inside ss ≡ r - (s.mark.size + inside ss) = omega arith in
    let here = run-marked limit octets s.line s.literal o r s.mark is.marked is.short line_fits size_fits within in
    let there = run-sections limit (octets ++ own) ss rest (o + length s.line) (r - s.mark.size) all.1 rest_fits rest_room in
    ap (run (amid limit octets (line []) o r)) (append_assoc own (sections_octets ss) rest)
    ∙ run-append (amid limit octets (line []) o r) own (sections_octets ss ++ rest)
    ∙ rw (here, done, there, append_assoc octets own (sections_octets ss), sum_outside, sum_inside, append_assoc (continue_frames s.mark)) refl

-- the sections of a command that begins
run-begun : (limit : ℕ) (ss : List Section) (rest : List ℕ) (n k : ℕ) → IsBegun limit ss n k →
    run (awaiting limit (start limit)) (sections_octets ss ++ rest) ≡ after (sections_frames ss) (run (amid limit (sections_octets ss) (line []) (outside ss) (limit - inside ss)) rest)
run-begun limit ss rest n k is =
    let fits : 0 + outside ss ≤ max_command_octets = omega (arith, is.outside) in
    let room : inside ss ≤ limit = omega (arith, is.inside) in
    run-sections limit [] ss rest 0 limit is.each fits room ∙ rw zero-add refl

pub run-item : (limit : ℕ) (i : Item) (rest : List ℕ) → IsItem limit i → run (awaiting limit (start limit)) (item_octets i ++ rest) ≡ after (item_frames i) (run (awaiting limit (start limit)) rest)
run-item limit (command ss last) rest is =
    ap (run (awaiting limit (start limit))) (append_assoc (sections_octets ss) last rest)
    ∙ run-begun limit ss (last ++ rest) (length last) 0 is.0
    ∙ rw (
      run-append (amid limit (sections_octets ss) (line []) (outside ss) (limit - inside ss)) last rest,
      run-line limit (sections_octets ss) last (outside ss) (limit - inside ss) is.1.is_line is.0.outside,
      no_mark last is.1,
      append_assoc (sections_frames ss),
    ) refl
run-item limit (dropped ss last mark) rest is =
    let over : limit - inside ss < mark.size = omega (arith, is.3, is.0.inside) in
    ap (run (awaiting limit (start limit))) (append_assoc (sections_octets ss) last rest)
    ∙ run-begun limit ss (last ++ rest) (length last) 0 is.0
    ∙ rw (
      run-append (amid limit (sections_octets ss) (line []) (outside ss) (limit - inside ss)) last rest,
      run-line limit (sections_octets ss) last (outside ss) (limit - inside ss) is.1.is_line is.0.outside,
      marks_are_found last mark is.1.marked,
      is.2,
      lt-ltb (limit - inside ss) mark.size over,
      append_assoc (sections_frames ss),
    ) refl

over_either : (limit n : ℕ) (mark : Announced) → n ≤ limit → (limit < n + mark.size) ⊎ (max_unasked_octets < mark.size) → min (limit - n) max_unasked_octets < mark.size
over_either limit n mark h (inl a) = omega arith
over_either limit n mark h (inr b) = omega arith

pub run-ending : (limit : ℕ) (e : Ending) → IsEnding limit e → run (awaiting limit (start limit)) (ending_octets e) ≡ record { frames = ending_frames e; next = ending_left limit e }
run-ending limit (in_line ss so_far) is =
    rw (
      run-begun limit ss so_far (length so_far) 0 is.0,
      run-unended limit (sections_octets ss) [] so_far (outside ss) (limit - inside ss) (IsUnended-none [] so_far is.1) is.0.outside,
      append-nil,
    ) refl
run-ending limit (in_literal ss s) is =
    let room : s.mark.size ≤ limit - inside ss = omega (arith, is.0.inside) in
    let within : length s.literal ≤ s.mark.size = omega (arith, is.3) in
    rw (
      run-begun limit ss (s.line ++ s.literal) (length s.line) s.mark.size is.0,
      run-marked limit (sections_octets ss) s.line s.literal (outside ss) (limit - inside ss) s.mark is.1 is.2 is.0.outside room within,
    ) refl
run-ending limit (too_long ss text octet unread) is =
    let over : max_command_octets < outside ss + length text + 1 = omega (arith, is.2) in
    rw (
      run-begun limit ss (text ++ octet ∷ unread) (length text) 0 is.0,
      run-append (amid limit (sections_octets ss) (line []) (outside ss) (limit - inside ss)) text (octet ∷ unread),
      run-unended limit (sections_octets ss) [] text (outside ss) (limit - inside ss) (IsUnended-none [] text is.1) is.0.outside,
      lt-ltb max_command_octets (outside ss + length text + 1) over,
      run-hung_up unread,
    ) refl
run-ending limit (too_large ss last mark unread) is =
    let over = over_either limit (inside ss) mark (omega (arith, is.0.inside)) is.3 in
    rw (
      run-begun limit ss (last ++ unread) (length last) 0 is.0,
      run-append (amid limit (sections_octets ss) (line []) (outside ss) (limit - inside ss)) last unread,
      run-line limit (sections_octets ss) last (outside ss) (limit - inside ss) is.1.is_line is.0.outside,
      marks_are_found last mark is.1.marked,
      is.2,
      lt-ltb (min (limit - inside ss) max_unasked_octets) mark.size over,
      run-hung_up unread,
    ) refl

run-items : (limit : ℕ) (items : List Item) (e : Ending) → AllByRecursion (IsItem limit) items → IsEnding limit e →
    run (awaiting limit (start limit)) (flat_map item_octets items ++ ending_octets e) ≡ record { frames = flat_map item_frames items ++ ending_frames e; next = ending_left limit e }
run-items limit [] e all ends = run-ending limit e ends
run-items limit (i ∷ items) e all ends =
    rw (
      append_assoc (item_octets i) (flat_map item_octets items) (ending_octets e),
      run-item limit i (flat_map item_octets items ++ ending_octets e) all.0,
      run-items limit items e all.1 ends,
      append_assoc (item_frames i) (flat_map item_frames items) (ending_frames e),
    ) refl

pub frames_as_read : FramesAsRead
frames_as_read limit r is = run-items limit r.items r.ending is.0 is.1
