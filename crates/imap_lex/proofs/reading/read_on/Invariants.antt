use Rattle.std.proofs.Common.{◌≡◌, ℕ, ◌-◌, ◌≤◌, List, ◌++◌, length, take, drop}
use Rattle.imap_lex.specs.Framing.{awaiting, after, run}
use Rattle.imap_lex.specs.Places.{begun, IsPlace}
use Rattle.imap_lex.proofs.Turns.{IsTail}
use Rattle.imap_lex.proofs.reading.read_on.Given as goal

abbrev pub invariant-loop-at : goal.invariant-loop-at
invariant-loop-at l = record {
  stands : IsPlace l.place;
  within : l.at ≤ length l.piece;
  line : IsTail l.line (l.line-2 ++ take l.at l.piece);
  told : (limit : ℕ) (octets : List ℕ) →
      after l.fn.frames.items (run (awaiting limit (begun octets l.line-2 l.fn.place)) l.piece)
      ≡ after l.frames.items (run (awaiting limit (begun (octets ++ take l.at l.piece) l.line l.place)) (drop l.at l.piece));
}

abbrev pub decreases-loop-at : goal.decreases-loop-at
decreases-loop-at l = length l.piece - l.at
