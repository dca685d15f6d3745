use Rattle.std.proofs.Common.{◌≡◌, ◌+◌, ◌∷◌, ◌∙◌, arith, ap, drop, drop_of_length-le, subst, sym}
use Rattle.std.proofs.lemmas.List.{drop_more}
use Rattle.imap_stored_values.proofs.Words.{same_fault}
use Rattle.imap_stored_values.proofs.Zipped.{HasRead, read_end, read_never, read_next}
use Rattle.imap_stored_values.proofs.lists.read_all.Goals as goal

pub returns-in-Err-clause-bad : goal.returns-in-Err-clause-bad
returns-in-Err-clause-bad g c is all z =
    let xs = c.args.rows.now in
    let at = c.rows.row-index in
    let x = c.row-item.result in
    let cut : drop at xs ≡ x ∷ drop (at + 1) xs = drop_more xs at x c.rows-test.true ∙ ap (λ (k : g.row.R.Denot). k ∷ drop (at + 1) xs) (sym c.row-item.is) in
    read_never g.R.Listed.keeps xs (drop at xs) (drop (at + 1) xs) x c.rows.items.items cut
    (c.read.ensures.bad (c.in-Err.is ∙ same_fault c.in-Err.error is)) c.rows.invariant all z

pub rows-preserved : goal.rows-preserved
rows-preserved g c =
    let xs = c.args.rows.now in
    let at = c.rows.row-index in
    let x = c.row-item.result in
    let cut : drop at xs ≡ x ∷ drop (at + 1) xs = drop_more xs at x c.rows-test.true ∙ ap (λ (k : g.row.R.Denot). k ∷ drop (at + 1) xs) (sym c.row-item.is) in
    subst (HasRead g.R.Listed.keeps xs (drop (at + 1) xs)) (sym c.in-Ok-push.ensures.items)
    (read_next g.R.Listed.keeps xs (drop at xs) (drop (at + 1) xs) x c.in-Ok.item c.rows.items.items cut c.in-Ok.ensures.ok c.rows.invariant)

pub returns-clause-ok : goal.returns-clause-ok
returns-clause-ok g c =
    let xs = c.args.rows.now in
    read_end g.R.Listed.keeps xs (drop c.rows.row-index xs) c.rows.items.items (drop_of_length-le xs (omega (arith, c.rows-test.false))) c.rows.invariant
