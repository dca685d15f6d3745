use Rattle.std.proofs.Common.{subst, sym, arith}
use Rattle.imap_names.specs.Places.{AreReached}
use Rattle.imap_names.proofs.PlaceLaws.{starts, goes_back, none_left}
use Rattle.imap_names.proofs.places.reaches.Goals as goal

pub loop-n-init : goal.loop-n-init
loop-n-init c = record { within = omega arith; reached = starts c.args.pattern.now c.args.text.now }

pub returns-then-places-eq0 : goal.returns-then-places-eq0
returns-then-places-eq0 c = none_left c.loop-n.n c.args.pattern.now c.args.text.now c.loop-n.places c.requires.within c.if-places-eq0.true c.loop-n.invariant.reached

pub loop-n-preserved : goal.loop-n-preserved
loop-n-preserved c = record {
  within = omega arith;
  reached = subst (AreReached _ c.args.text.now 0) (sym c.step-places.ensures.places)
      (goes_back c.loop-n.n c.args.pattern.now c.args.text.now c.loop-n.places c.args.masks.now (omega arith) c.loop-n.invariant.within
      c.step-places.ensures.octet c.requires.masks c.loop-n.invariant.reached);
}
