use Rattle.std.proofs.Common.{arith, ap, sym, ◌∙◌}
use Rattle.imap_names.specs.Pattern.{ends_level}
use Rattle.imap_names.proofs.Walks.{plain_more}
use Rattle.imap_names.proofs.wildcards.level_end.Goals as goal

pub loop-end-preserved : goal.loop-end-preserved
loop-end-preserved c = record {
  after = omega arith;
  within = omega arith;
  plain = plain_more c.args.text.now c.args.from c.loop-end.end c.loop-end.invariant.after (omega arith) c.loop-end.invariant.plain
      (ap ends_level (sym c.at.ensures) ∙ (sym c.ends_level.ensures ∙ c.if-not-ends_level.true));
}
