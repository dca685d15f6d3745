use Rattle.std.proofs.Common.{subst, sym}
use Rattle.imap_syntax.specs.declared.set.Numbering.{Numbering}
use Rattle.imap_targets.specs.Spans.{IsWithin}
use Rattle.imap_targets.proofs.Spanned.{span_is}
use Rattle.imap_targets.proofs.message_numbers.MessageNumbers.span.Goals as goal

pub returns-in-Sequence : goal.returns-in-Sequence
returns-in-Sequence c =
    let bounds = c.bounds-low.result in
    let places = c.number_span.result in
    let known = c.args.known.now.list in
    span_is c.args.self.now bounds.0 bounds.1 c.bounds-low.ensures known places.0 places.1 c.len-count.ensures.valid
    (subst (λ (by : Numbering). IsWithin by bounds.0 bounds.1 known places.0 places.1) (sym c.in-Sequence.is) c.number_span.ensures)

pub returns-in-Uid : goal.returns-in-Uid
returns-in-Uid c =
    let bounds = c.bounds-low.result in
    let places = c.uid_span.result in
    let known = c.args.known.now.list in
    span_is c.args.self.now bounds.0 bounds.1 c.bounds-low.ensures known places.0 places.1 c.len-count.ensures.valid
    (subst (λ (by : Numbering). IsWithin by bounds.0 bounds.1 known places.0 places.1) (sym c.in-Uid.is) c.uid_span.ensures)
