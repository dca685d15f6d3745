use Rattle.std.proofs.Common.{◌≡◌, ◌≤◌, [], ◌∷◌}
use Rattle.std.specs.Prelude.{eqb}
use Rattle.std.specs.List.{ends_with}
use Rattle.imap_lex.proofs.Lines.{line_at, IsReadTo}
use Rattle.imap_lex.proofs.line.line_end.Given as goal

abbrev pub invariant-loop-at : goal.invariant-loop-at
invariant-loop-at l = record {
  so_far : IsReadTo l.front l.piece l.at;
  cr : l.after_cr ≡ ends_with eqb (line_at l.front l.piece l.at) (13 ∷ []);
  room : l.at ≤ l.room;
}
