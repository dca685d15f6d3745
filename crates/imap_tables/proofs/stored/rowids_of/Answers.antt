use Rattle.std.proofs.Common.{◌≡◌, ◌+◌, ◌++◌, [], ◌∷◌, append_assoc, drop, map, rules, sym, ap, ◌∙◌}
use Rattle.std.proofs.lemmas.List.{drop_more}
use Rattle.imap_tables.proofs.stored.rowids_of.Goals as goal

pub items-preserved : goal.items-preserved
items-preserved g c =
    let l = c.items in
    let all = c.args.items.now in
    let item = c.item-item.result in
    let rest = drop (l.item-index + 1) all in
    let front : drop l.item-index all ≡ item ∷ rest = drop_more all l.item-index item c.items-test.true ∙ ap (λ x. x ∷ rest) (sym c.item-item.is) in
    let left = map g.R.FromRow.id rest in
    let same : c.push.new.self.items ≡ l.ids.items ++ (g.R.FromRow.id item ∷ []) = search rules in
    ap (λ ids. ids ++ left) same ∙ append_assoc l.ids.items (g.R.FromRow.id item ∷ []) left
    ∙ ap (λ xs. l.ids.items ++ map g.R.FromRow.id xs) (sym front) ∙ l.invariant
