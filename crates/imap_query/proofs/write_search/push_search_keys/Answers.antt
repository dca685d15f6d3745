use Rattle.std.proofs.Common.{ap, map, ◌∙◌, sym}
use Rattle.imap_query.specs.Keys.{key_of}
use Rattle.imap_query.specs.WrittenSearch.{keys_from}
use Rattle.imap_query.proofs.WrittenKeys.{keys_from-all}
use Rattle.imap_query.proofs.write_search.push_search_keys.Goals as goal

pub returns : goal.returns
returns c =
    let read = ap keys_from (sym c.as_slice.ensures) ∙ keys_from-all (map key_of c.as_slice.result.now) in
    rw read c.push_keys.ensures
