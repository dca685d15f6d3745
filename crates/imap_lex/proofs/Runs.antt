-- Laws of runs.
use Rattle.std.proofs.Common.{◌≡◌, refl, suc, ℕ, ◌+◌, ◌-◌, ◌<◌, ◌≤◌, List, [], ◌∷◌, ◌++◌, append_assoc, append-nil, add-zero, length, arith}
use Rattle.std.proofs.Math.Nat.{sub-zero}
use Rattle.std.proofs.lemmas.Bool.{lt-ltb, le-ltb}
use Rattle.imap_lex.specs.Limits.{max_command_octets}
use Rattle.imap_lex.specs.declared.frame.Frame.{Frame}
use Rattle.imap_lex.specs.Framing.{Part, line, Framing, awaiting, hung_up, Outcome, part_of_size, octet_outcome, after, run}
use Rattle.imap_lex.specs.LineEnd.{IsUnended}

pub after-after : (first second : List Frame) (o : Outcome) → after first (after second o) ≡ after (first ++ second) o
after-after first second o = rw append_assoc refl

pub run-hung_up : (octets : List ℕ) → run hung_up octets ≡ record { frames = []; next = hung_up }
run-hung_up [] = refl
run-hung_up (b ∷ octets) = rw (run-hung_up octets) refl

pub run-append : (state : Framing) (first second : List ℕ) → run state (first ++ second) ≡ after (run state first).frames (run (run state first).next second)
run-append state [] second = refl
run-append state (b ∷ first) second = rw (run-append (octet_outcome state b).next first second, append_assoc) refl

-- in the midst of a command
abbrev pub amid : ℕ → List ℕ → Part → ℕ → ℕ → Framing
amid limit octets part outside room = awaiting limit (record { octets = octets; part = part; outside = outside; room = room })

-- octets with which no line ends
pub run-unended : (limit : ℕ) (octets so_far more : List ℕ) (outside room : ℕ) → IsUnended so_far more → outside + length more ≤ max_command_octets →
    run (amid limit octets (line so_far) outside room) more ≡ record { frames = []; next = amid limit (octets ++ more) (line (so_far ++ more)) (outside + length more) room }
run-unended limit octets so_far [] outside room none fits = simp (append-nil, add-zero) refl
run-unended limit octets so_far (b ∷ more) outside room none fits =
    let here : outside + 1 ≤ max_command_octets = omega arith in
    let rest : (outside + 1) + length more ≤ max_command_octets = omega arith in
    let sums : (outside + 1) + length more ≡ outside + suc (length more) = omega arith in
    rw (
      le-ltb max_command_octets (outside + 1) here,
      none.0,
      run-unended limit (octets ++ b ∷ []) (so_far ++ b ∷ []) more (outside + 1) room none.1 rest,
      append_assoc octets (b ∷ []) more,
      append_assoc so_far (b ∷ []) more,
      sums,
    ) refl

-- octets of a literal
pub run-literal : (limit : ℕ) (octets bs : List ℕ) (left outside room : ℕ) → length bs ≤ left →
    run (amid limit octets (part_of_size left) outside room) bs ≡ record { frames = []; next = amid limit (octets ++ bs) (part_of_size (left - length bs)) outside room }
run-literal limit octets [] left outside room fits = simp (append-nil, sub-zero) refl
run-literal limit octets (b ∷ bs) left outside room fits =
    let some : 0 < left = omega arith in
    let rest : length bs ≤ left - 1 = omega arith in
    let less : left - 1 - length bs ≡ left - suc (length bs) = omega arith in
    rw (lt-ltb 0 left some, run-literal limit (octets ++ b ∷ []) bs (left - 1) outside room rest, append_assoc octets (b ∷ []) bs, less) refl
