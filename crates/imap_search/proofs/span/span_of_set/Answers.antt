use Rattle.std.proofs.Common.{List, subst}
use Rattle.imap_syntax.specs.declared.set.SeqRange.{SeqRange}
use Rattle.imap_search.specs.Span.{AreNamedAmong}
use Rattle.imap_search.proofs.Spanned.{named_among}
use Rattle.imap_search.proofs.span.span_of_set.Goals as goal

pub returns : goal.returns
returns c =
    let start = c.span.result.0 in
    let end = c.span.result.1 in
    subst (λ (rs : List SeqRange). AreNamedAmong c.args.numbering c.args.last rs c.args.known.now.list start end) c.ranges_of.ensures
    (named_among _ c.args.known.now.list start end c.span.ensures)
