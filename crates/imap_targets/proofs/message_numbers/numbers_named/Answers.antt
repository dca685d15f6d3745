use Rattle.std.proofs.Common.{◌<◌, ◌≡◌, ◌∙◌, arith, length, sym}
use Rattle.imap_targets.proofs.Listed.{all_rise, pushed, skipped}
use Rattle.imap_targets.proofs.message_numbers.numbers_named.Goals as goal

pub loop-index-preserved-then-not-has : goal.loop-index-preserved-then-not-has
loop-index-preserved-then-not-has c =
    let within : c.loop-index.index < length c.args.known.now.list = omega (arith, c.loop-index-test.true, c.span-start.ensures.within) in
    skipped c.args.messages.now c.args.known.now.list c.loop-index.index c.numbered_at-message.result within c.numbered_at-message.ensures.number c.numbered_at-message.ensures.uid
    c.loop-index.named.items (sym c.has.ensures ∙ c.if-not-has.true) c.loop-index.invariant

pub loop-index-preserved : goal.loop-index-preserved
loop-index-preserved c =
    let within : c.loop-index.index < length c.args.known.now.list = omega (arith, c.loop-index-test.true, c.span-start.ensures.within) in
    pushed c.args.messages.now c.args.known.now.list c.loop-index.index c.numbered_at-message.result within c.numbered_at-message.ensures.number c.numbered_at-message.ensures.uid
    c.loop-index.named.items c.push.new.self.items c.in_ok-push.ensures.items (sym c.has.ensures ∙ c.if-not-has.false) c.loop-index.invariant

pub returns-clause-rise : goal.returns-clause-rise
returns-clause-rise c =
    let end = c.span-start.result.1 in
    let same : c.loop-index.index ≡ end = omega (arith, c.loop-index-test.false, c.span-start.ensures.order) in
    all_rise c.args.messages.now c.args.known.now.list end c.loop-index.index c.loop-index.named.items c.span-start.ensures.rise c.span-start.ensures.after same c.loop-index.invariant
