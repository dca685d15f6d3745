use Rattle.std.proofs.Common.{arith}
use Rattle.imap_names.proofs.PlaceLaws.{all_start, all_go_back}
use Rattle.imap_names.proofs.places.reaches_by_words.Goals as goal

pub loop-n-init : goal.loop-n-init
loop-n-init c = record { within = omega arith; reached = all_start c.args.pattern.now c.args.text.now }

pub loop-n-preserved : goal.loop-n-preserved
loop-n-preserved c = record {
  within = omega arith;
  reached = all_go_back c.loop-n.n c.args.pattern.now c.args.text.now c.loop-n.words c.step_words.new.words (omega arith) c.loop-n.invariant.within
      c.step_words.ensures c.loop-n.invariant.reached;
}
