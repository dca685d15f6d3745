use Rattle.std.proofs.Common.{◌∷◌, [], subst, sym}
use Rattle.imap_query.specs.declared.search.SearchKey.{SearchKey}
use Rattle.imap_query.specs.Keys.{key_of}
use Rattle.imap_search.specs.Span.{AreAmong}
use Rattle.imap_search.proofs.Spanned.{numbers_among}
use Rattle.imap_search.proofs.span.span_of_key.Goals as goal

pub returns-in-Numbers : goal.returns-in-Numbers
returns-in-Numbers c =
    let start = c.span_of_set.result.0 in
    let end = c.span_of_set.result.1 in
    subst (λ (k : SearchKey). AreAmong (key_of k ∷ []) c.args.last c.args.last_uid c.args.known.now.list start end) (sym c.in-Numbers.is)
    (numbers_among c.in-Numbers.messages c.args.last c.args.last_uid c.args.known.now.list start end c.span_of_set.ensures)
