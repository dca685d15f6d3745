use Rattle.std.proofs.Common.{ap, map, ◌∙◌, sym}
use Rattle.imap_query.specs.Searching.{max_key_levels}
use Rattle.imap_query.specs.Keys.{key_of}
use Rattle.imap_query.specs.WrittenSearch.{key_fits, keys_from}
use Rattle.imap_query.proofs.WrittenKeys.{keys_from-all, group-all}
use Rattle.imap_query.proofs.write_search.search_keys_fit.Goals as goal

pub returns : goal.returns
returns c =
    let ks = map key_of c.as_slice.result.now in
    let read = ap keys_from (sym c.as_slice.ensures) ∙ keys_from-all ks in
    rw read (c.keys_fit.ensures ∙ group-all (key_fits max_key_levels) ks)
