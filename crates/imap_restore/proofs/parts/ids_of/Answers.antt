use Rattle.std.proofs.Common.{◌≡◌, ◌+◌, ◌++◌, ℤ, [], ◌∷◌, append_assoc, drop, map, of_z, rules, sym, ap, to_z, w64, ◌∙◌}
use Rattle.std.proofs.lemmas.List.{drop_more}
use Rattle.imap_tables.specs.declared.stored.StoredMailbox.{StoredMailbox}
use Rattle.imap_restore.proofs.parts.ids_of.Goals as goal

pub mailboxes-preserved : goal.mailboxes-preserved
mailboxes-preserved c =
    let l = c.mailboxes in
    let all = c.args.mailboxes.now in
    let item = c.mailbox-item.result in
    let rest = drop (l.mailbox-index + 1) all in
    let front : drop l.mailbox-index all ≡ item ∷ rest = drop_more all l.mailbox-index item c.mailboxes-test.true ∙ ap (λ x. x ∷ rest) (sym c.mailbox-item.is) in
    let id : ℤ = to_z w64 (of_z w64 item.id) in
    let same : id ≡ item.id = search rules in
    let left = map (λ (it : StoredMailbox). it.id) rest in
    ap (λ ids. ids ++ left) c.in_ok-push.ensures.items ∙ append_assoc l.ids.items (id ∷ []) left ∙ ap (λ i. l.ids.items ++ (i ∷ left)) same
    ∙ ap (λ xs. l.ids.items ++ map (λ (it : StoredMailbox). it.id) xs) (sym front) ∙ l.invariant
