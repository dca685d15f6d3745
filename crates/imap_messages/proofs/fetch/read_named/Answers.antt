use Rattle.std.proofs.Common.{◌≡◌, ◌<◌, ◌∙◌, true, false, length, arith, option_map, rules, sym}
use Rattle.imap_mailbox.specs.Lent.{row_shown}
use Rattle.imap_messages.specs.Reading.{IsAdded}
use Rattle.imap_messages.proofs.Named.{added, left_over, passed, skipped, skipped_from}
use Rattle.imap_messages.proofs.fetch.read_named.Goals as goal

pub loop-index-preserved-then-index-next : goal.loop-index-preserved-then-index-next
loop-index-preserved-then-index-next c =
    let known = c.args.known.now.list in
    let within : c.loop-index.index < length known = omega (arith, c.loop-index-test.true, c.span-start.ensures.within) in
    let skipped = c.loop-index.invariant.1 in (
      left_over c.is_by_uid-by_uid.result c.args.since c.args.wanted.now c.args.sets c.args.mailbox.now c.args.messages.now.numbering c.args.messages.now.last c.args.messages.now.ranges.now known
          c.loop-index.index within (λ d.
          let low = skipped c.loop-index.index d (omega arith) c.if-index-next.true within in
          (c.may_skip-skips.ensures low.0 c.loop-index.index d c.loop-index.auto.index c.loop-index-test.true, low.1)) c.loop-index.reading c.loop-index.invariant.0,
      skipped_from c.may_skip-skips.result c.args.since c.args.mailbox.now.rows known c.loop-index.index c.loop-index.next skipped,
    )

pub loop-index-preserved-then-index-next-2 : goal.loop-index-preserved-then-index-next-2
loop-index-preserved-then-index-next-2 c =
    let known = c.args.known.now.list in
    let within : c.loop-index.index < length known = omega (arith, c.loop-index-test.true, c.span-start.ensures.within) in
    let skipped = c.next_to_read-next.ensures in (
      left_over c.is_by_uid-by_uid.result c.args.since c.args.wanted.now c.args.sets c.args.mailbox.now c.args.messages.now.numbering c.args.messages.now.last c.args.messages.now.ranges.now known
          c.loop-index.index within (λ d.
          let low = skipped c.loop-index.index d (omega arith) c.if-index-next-2.true within in
          (c.may_skip-skips.ensures low.0 c.loop-index.index d c.loop-index.auto.index c.loop-index-test.true, low.1)) c.loop-index.reading c.loop-index.invariant.0,
      skipped_from c.may_skip-skips.result c.args.since c.args.mailbox.now.rows known c.loop-index.index c.next_to_read-next.result skipped,
    )

pub loop-index-preserved-then-not-has : goal.loop-index-preserved-then-not-has
loop-index-preserved-then-not-has c =
    let known = c.args.known.now.list in
    let within : c.loop-index.index < length known = omega (arith, c.loop-index-test.true, c.span-start.ensures.within) in
    let unnamed : c.has.result ≡ false = search rules in (
      skipped c.is_by_uid-by_uid.result c.args.since c.args.wanted.now c.args.sets c.args.mailbox.now c.args.messages.now.numbering c.args.messages.now.last c.args.messages.now.ranges.now known
          c.loop-index.index c.number_at-number.result c.uid-uid.result c.uid-uid.result within c.number_at-number.ensures c.uid-uid.ensures
          c.loop-index.reading (sym c.has.ensures ∙ unnamed) c.loop-index.invariant.0,
      skipped_from c.may_skip-skips.result c.args.since c.args.mailbox.now.rows known c.loop-index.index c.next_to_read-next.result c.next_to_read-next.ensures,
    )

pub loop-index-preserved-then-passes_over : goal.loop-index-preserved-then-passes_over
loop-index-preserved-then-passes_over c =
    let known = c.args.known.now.list in
    let within : c.loop-index.index < length known = omega (arith, c.loop-index-test.true, c.span-start.ensures.within) in
    let named : c.has.result ≡ true = search rules in
    let kept : c.passes_over.result ≡ true = search rules in (
      passed c.is_by_uid-by_uid.result c.args.since c.args.wanted.now c.args.sets c.args.mailbox.now c.args.messages.now.numbering c.args.messages.now.last c.args.messages.now.ranges.now known
          c.loop-index.index c.number_at-number.result c.uid-uid.result c.uid-uid.result within c.number_at-number.ensures c.uid-uid.ensures
          (sym c.has.ensures ∙ named) c.loop-index.reading (sym c.passes_over.ensures ∙ kept) c.loop-index.invariant.0,
      skipped_from c.may_skip-skips.result c.args.since c.args.mailbox.now.rows known c.loop-index.index c.next_to_read-next.result c.next_to_read-next.ensures,
    )

pub loop-index-preserved : goal.loop-index-preserved
loop-index-preserved c =
    let known = c.args.known.now.list in
    let within : c.loop-index.index < length known = omega (arith, c.loop-index-test.true, c.span-start.ensures.within) in
    let named : c.has.result ≡ true = search rules in
    let unpassed : c.passes_over.result ≡ false = search rules in
    let kept : c.refuses.result ≡ false = search rules in
    let made : IsAdded c.args.wanted.now c.number_at-number.result (option_map row_shown c.find-row.result) c.loop-index.reading c.add_if_there.new.self = search rules in (
      added c.is_by_uid-by_uid.result c.args.since c.args.wanted.now c.args.sets c.args.mailbox.now c.args.messages.now.numbering c.args.messages.now.last c.args.messages.now.ranges.now known
          c.loop-index.index c.number_at-number.result c.uid-uid.result c.uid-uid.result within c.number_at-number.ensures c.uid-uid.ensures
          (sym c.has.ensures ∙ named) _ c.find-row.ensures c.loop-index.reading c.add_if_there.new.self (sym c.refuses.ensures ∙ kept)
          (sym c.passes_over.ensures ∙ unpassed) made c.loop-index.invariant.0,
      skipped_from c.may_skip-skips.result c.args.since c.args.mailbox.now.rows known c.loop-index.index c.next_to_read-next.result c.next_to_read-next.ensures,
    )
