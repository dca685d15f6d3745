use Rattle.std.proofs.Common.{◌+◌, ◌-◌, get_or, sym, ap, ◌∙◌, arith}
use Rattle.imap_names.specs.Letters.{blank}
use Rattle.imap_names.specs.Pattern.{ends_level}
use Rattle.imap_names.proofs.MarkLaws.{inner_more, inner_less, no_inner}
use Rattle.imap_names.proofs.places.inner_places.Goals as goal

pub loop-n-init : goal.loop-n-init
loop-n-init c = record { within = omega arith; inner = no_inner c.args.text.now c.args.base }

pub loop-n-preserved-then-not-ends_level : goal.loop-n-preserved-then-not-ends_level
loop-n-preserved-then-not-ends_level c = record {
  within = omega arith;
  inner = inner_more c.args.text.now c.args.base c.loop-n.n c.loop-n.inner (omega arith) c.loop-n.invariant.inner
      (ap ends_level (sym (c.at.ensures ∙ ap (λ k. get_or c.args.text.now (k - (c.args.base + (c.loop-n.n + 1))) blank) c.len-len.ensures.len))
      ∙ (sym c.ends_level.ensures ∙ c.if-not-ends_level.true));
}
