use Rattle.std.proofs.Common.{ap, sym, map, ◌∙◌}
use Rattle.imap_query.specs.Keys.{key_of, keys_of, group}
use Rattle.imap_query.proofs.WrittenKeys.{key_of-Group}
use Rattle.imap_search.specs.KeyFacts.{facts_of_key}
use Rattle.imap_search.proofs.key_facts.+facts.Goals as goal

pub facts_of_key-returns-in-Group : goal.facts_of_key-returns-in-Group
facts_of_key-returns-in-Group t c =
    let same = ap key_of c.in-Group.is ∙ key_of-Group c.in-Group.keys in
    let keys = ap (λ ks. group (keys_of (map key_of ks))) c.deref-in-Group.ensures.value in
    c.facts_of_each.ensures ∙ ap (facts_of_key c.args.count) (keys ∙ sym same)
