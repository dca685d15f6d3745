use Rattle.std.proofs.Common.{◌∙◌, sym, arith}
use Rattle.imap_lex.proofs.Lines.{IsReadTo-next, IsEnd-next, ends_with_cr-next}
use Rattle.imap_lex.proofs.line.line_end.Goals as goal
use Rattle.imap_lex.proofs.line.line_end.Goals.{else-after_cr-via-then-after_cr+else-octet-eq10, else-after_cr-via-else-after_cr}

pub loop-at-preserved : goal.loop-at-preserved
loop-at-preserved c = record {
  so_far = IsReadTo-next _ _ _ (omega arith) (λ cr lf. elim c.else-after_cr.branch [
    | else-after_cr-via-then-after_cr+else-octet-eq10 w ↦ grind (arith, w.if-octet-eq10.false)
    | else-after_cr-via-else-after_cr w ↦ let before = w.if-after_cr.false in let is = c.loop-at.invariant.cr in cc
  ]) c.loop-at.invariant.so_far;
  cr = sym (ends_with_cr-next c.args.front.now c.args.piece.now c.loop-at.at (omega arith));
  room = omega arith;
}

pub returns-then-octet-eq10 : goal.returns-then-octet-eq10
returns-then-octet-eq10 c =
    let lf = c.if-octet-eq10.true in
    (IsEnd-next _ _ _ (omega arith) (sym c.loop-at.invariant.cr ∙ c.if-after_cr.true) (grind (arith, lf)) c.loop-at.invariant.so_far, omega arith)
