use Rattle.std.proofs.Common.{◌<◌, ltb, get_or, sym, subst, arith}
use Rattle.std.proofs.lemmas.Bool.{ltb-true}
use Rattle.std.proofs.lemmas.List.Sums.{prefix_len_passes}
use Rattle.imap_mailbox.specs.Rows.{Row}
use Rattle.imap_batch.specs.Untouched.{IsBefore}
use Rattle.imap_batch.proofs.planned.end_before.Goals as goal

pub returns-then-end-place-clause-below : goal.returns-then-end-place-clause-below
returns-then-end-place-clause-below c = λ i r from to is. absurd (omega (arith, from, to))

pub returns-else-end-place-clause-below : goal.returns-else-end-place-clause-below
returns-else-end-place-clause-below c =
    λ i r from to is.
    let uid = c.in-Some.uid in
    let rows = c.args.rows.now in
    let less : r.uid < uid = subst (λ (x : Row). x.uid < uid) (sym is)
    (ltb-true (get_or rows i r).uid uid (prefix_len_passes (λ (x : Row). ltb x.uid uid) rows i r (subst (λ n. i < n) c.place_from-end.ensures.place to))) in
    subst (IsBefore r.uid) (sym c.in-Some.is) less
