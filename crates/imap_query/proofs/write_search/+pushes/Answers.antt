use Rattle.std.proofs.Common.{◌≡◌, ℕ, List, [], ◌∷◌, ◌++◌, map, ap, ◌∙◌}
use Rattle.imap_query.specs.Keys.{key_of}
use Rattle.imap_syntax.specs.Writing.{joined}
use Rattle.imap_query.specs.WrittenSearch.{key_text}
use Rattle.imap_syntax.proofs.Pushes.{and_then}
use Rattle.imap_query.proofs.WrittenKeys.{key_of-Group, row-joined}
use Rattle.imap_query.proofs.write_search.+pushes.Goals as goal

pub push_key-returns-in_ok-push-in-Group-2 : goal.push_key-returns-in_ok-push-in-Group-2
push_key-returns-in_ok-push-in-Group-2 t c =
    let same = ap key_of c.in-Group.is ∙ key_of-Group c.in-Group.keys in
    let items = c.in-Group.keys.items in
    let text : List ℕ = joined 32 key_text (map key_of items) in
    let pushed : c.push_keys.new.out.items ≡ c.push-in-Group.new.self.items ++ text = rw (← c.deref-in-Group.ensures.value) c.in_ok-push_keys-in-Group.ensures in
    rw (same, row-joined (map key_of items)) (and_then _ _ _ (40 ∷ []) (text ++ 41 ∷ []) c.in_ok-push-in-Group.ensures.items (and_then _ _ _ text (41 ∷ []) pushed c.in_ok-push-in-Group-2.ensures.items))
