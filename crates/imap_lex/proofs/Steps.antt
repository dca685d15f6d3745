-- What a piece does up to the end of a line or of a literal.
use Rattle.std.proofs.Common.{◌≡◌, ◌∙◌, ap, sym, refl, suc, ℕ, ◌+◌, ◌-◌, ◌<◌, ◌≤◌, List, [], ◌∷◌, ◌++◌, append_assoc, append-nil, length, take, drop, get_or, drop-cons, arith, true}
use Rattle.std.specs.Prelude.{eqb}
use Rattle.std.specs.List.{ends_with}
use Rattle.std.proofs.Math.Seq.{take-suc}
use Rattle.std.proofs.lemmas.Bool.{lt-ltb, le-ltb}
use Rattle.std.proofs.lemmas.List.{length-take-le, take-append-drop}
use Rattle.imap_lex.specs.Limits.{max_command_octets}
use Rattle.imap_lex.specs.declared.frame.Frame.TheVariants.{Hangup}
use Rattle.imap_lex.specs.Framing.{Part, line, literal, Framing, hung_up, crlf, Outcome, hangs_up, part_of_size, line_outcome, octet_outcome, after, run}
use Rattle.imap_lex.specs.Mark.{line_mark}
use Rattle.imap_lex.specs.LineEnd.{IsUnended, IsEnd}
use Rattle.imap_lex.proofs.Runs.{amid, run-hung_up, run-append, run-unended, run-literal}

-- a piece, cut behind `len` octets
run-cut : (state : Framing) (piece : List ℕ) (len : ℕ) → run state piece ≡ after (run state (take len piece)).frames (run (run state (take len piece)).next (drop len piece))
run-cut state piece len = ap (run state) (sym (take-append-drop len piece)) ∙ run-append state (take len piece) (drop len piece)

pub literal_step : (limit : ℕ) (octets piece : List ℕ) (left outside room len : ℕ) (next : Part) → 0 < left → len ≤ left → len ≤ length piece → next ≡ part_of_size (left - len) →
    run (amid limit octets (literal left) outside room) piece ≡ run (amid limit (octets ++ take len piece) next outside room) (drop len piece)
literal_step limit octets piece left outside room len next some most within e =
    let counted : length (take len piece) ≡ len = length-take-le len piece within in
    let fits : length (take len piece) ≤ left = omega arith in
    let part : part_of_size left ≡ literal left = rw (lt-ltb 0 left some) refl in
    ap (λ (p : Part). run (amid limit octets p outside room) piece) (sym part)
    ∙ run-cut (amid limit octets (part_of_size left) outside room) piece len
    ∙ rw (run-literal limit octets (take len piece) left outside room fits, counted, e) refl

after-end : (o : Outcome) → after o.frames (record { frames = []; next = o.next }) ≡ o
after-end o = rw append-nil refl

-- the octet that ends a line
last_octet : (limit : ℕ) (octets so_far so_far' : List ℕ) (outside room b : ℕ) → so_far ++ b ∷ [] ≡ so_far' → outside + 1 ≤ max_command_octets → ends_with eqb so_far' crlf ≡ true →
    octet_outcome (amid limit octets (line so_far) outside room) b ≡ line_outcome limit (record { octets = octets ++ b ∷ []; part = line so_far'; outside = outside + 1; room = room }) (line_mark so_far')
last_octet limit octets so_far so_far' outside room b e fits ends = rw (e, le-ltb max_command_octets (outside + 1) fits, ends) refl

-- the octets up to the end of a line
pub run-line_end : (limit : ℕ) (octets so_far front : List ℕ) (outside room b : ℕ) → IsUnended so_far front → outside + length front + 1 ≤ max_command_octets → ends_with eqb (so_far ++ (front ++ b ∷ [])) crlf ≡ true →
    run (amid limit octets (line so_far) outside room) (front ++ b ∷ [])
    ≡ line_outcome limit (record { octets = octets ++ (front ++ b ∷ []); part = line (so_far ++ (front ++ b ∷ [])); outside = outside + length front + 1; room = room }) (line_mark (so_far ++ (front ++ b ∷ [])))
run-line_end limit octets so_far front outside room b unended fits ends =
    let front_fits : outside + length front ≤ max_command_octets = omega arith in
    let whole = last_octet limit (octets ++ front) (so_far ++ front) (so_far ++ (front ++ b ∷ [])) (outside + length front) room b (append_assoc so_far front (b ∷ [])) fits ends in
    let behind : List ℕ → Outcome = λ (l : List ℕ). line_outcome limit (record { octets = l; part = line (so_far ++ (front ++ b ∷ [])); outside = outside + length front + 1; room = room }) (line_mark (so_far ++ (front ++ b ∷ []))) in
    run-append (amid limit octets (line so_far) outside room) front (b ∷ [])
    ∙ rw (run-unended limit octets so_far front outside room unended front_fits, whole) (after-end (behind ((octets ++ front) ++ b ∷ [])) ∙ ap behind (append_assoc octets front (b ∷ [])))

pub line_step : (limit : ℕ) (octets so_far piece : List ℕ) (outside room len : ℕ) → IsEnd so_far piece len → outside + len ≤ max_command_octets →
    run (amid limit octets (line so_far) outside room) piece
    ≡ (let o : Outcome = line_outcome limit (record { octets = octets ++ take len piece; part = line (so_far ++ take len piece); outside = outside + len; room = room }) (line_mark (so_far ++ take len piece)) in
    after o.frames (run o.next (drop len piece)))
line_step limit octets so_far piece outside room len is fits =
    let at : len - 1 < length piece = omega (arith, is.some, is.within) in
    let back : suc (len - 1) ≡ len = omega (arith, is.some) in
    let last : take len piece ≡ take (len - 1) piece ++ get_or piece (len - 1) 0 ∷ [] = ap (λ (n : ℕ). take n piece) (sym back) ∙ take-suc piece (len - 1) 0 at in
    let counted : length (take (len - 1) piece) ≡ len - 1 = length-take-le (len - 1) piece (omega arith) in
    let sums : outside + length (take (len - 1) piece) + 1 ≡ outside + len = omega (arith, is.some) in
    let front_fits : outside + length (take (len - 1) piece) + 1 ≤ max_command_octets = omega arith in
    let ends : ends_with eqb (so_far ++ (take (len - 1) piece ++ get_or piece (len - 1) 0 ∷ [])) crlf ≡ true = rw last at is.ends in
    let here = run-line_end limit octets so_far (take (len - 1) piece) outside room (get_or piece (len - 1) 0) is.first front_fits ends in
    run-cut (amid limit octets (line so_far) outside room) piece len
    ∙ rw (last, here, sums) refl

pub long_step : (limit : ℕ) (octets so_far piece : List ℕ) (outside room most : ℕ) → IsUnended so_far (take most piece) → most < length piece → outside + most ≡ max_command_octets →
    run (amid limit octets (line so_far) outside room) piece ≡ hangs_up
long_step limit octets so_far piece outside room most unended within full =
    let counted : length (take most piece) ≡ most = length-take-le most piece (omega arith) in
    let fits : outside + length (take most piece) ≤ max_command_octets = omega arith in
    let over : max_command_octets < outside + length (take most piece) + 1 = omega arith in
    run-cut (amid limit octets (line so_far) outside room) piece most
    ∙ rw (run-unended limit octets so_far (take most piece) outside room unended fits, drop-cons piece most 0, lt-ltb max_command_octets (outside + length (take most piece) + 1) over, run-hung_up (drop (suc most) piece)) refl

pub too_long : (rest : List ℕ) → hangs_up ≡ after (Hangup ∷ []) (run hung_up rest)
too_long rest = rw (run-hung_up rest) refl
