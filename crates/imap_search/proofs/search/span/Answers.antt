use Rattle.std.proofs.Common.{◌≡◌, map, rules}
use Rattle.imap_query.specs.Keys.{all_tokens, key_of}
use Rattle.imap_search.proofs.Spanned.{found_among}
use Rattle.imap_search.proofs.search.span.Goals as goal

pub returns : goal.returns
returns c =
    let criteria = c.args.criteria.now in
    let keys = c.as_slice.result.now in
    let are : all_tokens (map key_of keys) ≡ criteria.arguments.now.keys = search rules in
    found_among criteria.arguments.now criteria.last criteria.last_uid keys are c.args.known.now.list _ _ c.span_of_all.ensures
