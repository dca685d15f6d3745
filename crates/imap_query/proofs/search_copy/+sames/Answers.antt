use Rattle.std.proofs.Common.{ap, sym, map, ◌∙◌}
use Rattle.imap_query.specs.Keys.{key_of, keys_of, group}
use Rattle.imap_query.proofs.WrittenKeys.{key_of-Group, same_group}
use Rattle.imap_query.proofs.search_copy.+sames.Goals as goal

pub is_same_key-returns-in-Group-default : goal.is_same_key-returns-in-Group-default
is_same_key-returns-in-Group-default t c =
    let left = ap key_of c.in-Group-default.is-0 ∙ key_of-Group c.in-Group-default.keys in
    let keys = ap (map key_of) c.deref-in-Group-default.ensures.value in
    let same = c.is_group_of.ensures in
    ((λ yes. left ∙ ap (λ ks. group (keys_of ks)) (sym keys) ∙ same.0 yes), (λ e. same.1 (ap (λ ks. group (keys_of ks)) keys ∙ sym left ∙ e)))

pub is_group_of-returns-in-Group : goal.is_group_of-returns-in-Group
is_group_of-returns-in-Group t c =
    let right = ap key_of c.in-Group.is ∙ key_of-Group c.in-Group.others in
    let others = ap (map key_of) c.deref.ensures.value in
    let same = c.are_same_keys.ensures in
    ((λ yes. ap (λ ks. group (keys_of ks)) (same.0 yes ∙ others) ∙ sym right), (λ e. same.1 (same_group _ _ (e ∙ right) ∙ sym others)))
