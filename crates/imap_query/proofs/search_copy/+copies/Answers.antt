use Rattle.std.proofs.Common.{ap, sym, map, ◌∙◌}
use Rattle.imap_query.specs.Keys.{key_of, keys_of, group}
use Rattle.imap_query.proofs.WrittenKeys.{key_of-Group}
use Rattle.imap_query.proofs.search_copy.+copies.Goals as goal

pub copy_key-returns-in_ok-copy_keys-in-Group : goal.copy_key-returns-in_ok-copy_keys-in-Group
copy_key-returns-in_ok-copy_keys-in-Group t c =
    let same = ap key_of c.in-Group.is ∙ key_of-Group c.in-Group.keys in
    let copied = c.in_ok-copy_keys-in-Group.ensures ∙ ap (map key_of) c.deref-in-Group.ensures.value in
    c.group.ensures ∙ ap (λ ks. group (keys_of ks)) copied ∙ sym same
