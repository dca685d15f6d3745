use Rattle.std.proofs.Common.{sym, ◌∙◌, ap, arith, slice_index_or}
use Rattle.imap_names.specs.declared.token.Token.TheVariants.{Any}
use Rattle.imap_names.specs.Walk.{spells}
use Rattle.imap_names.proofs.Spelling.{common_more}
use Rattle.imap_names.proofs.wildcards.spelled.Goals as goal

pub loop-n-preserved : goal.loop-n-preserved
loop-n-preserved c = record {
  in_pattern = omega arith;
  in_text = omega arith;
  same = common_more c.args.pattern.now c.args.text.now c.loop-n.n (omega arith) (omega arith) c.loop-n.invariant.same
      (ap (spells (slice_index_or c.args.pattern.now c.loop-n.n Any)) (sym c.at.ensures) ∙ (sym c.spells.ensures ∙ c.if-not-spells.false));
}
