use Rattle.std.proofs.Common.{◌≡◌, ◌+◌, ◌∷◌, inl, inr, List, arith, drop, drop_of_length-le, refl, rules, sym, ap, subst, ◌∙◌, true≢false}
use Rattle.std.proofs.lemmas.List.{drop_more}
use Rattle.sqlite.specs.Order.{Row}
use Rattle.sqlite_rules.specs.Lists.{Has}
use Rattle.imap_sql_keeper.specs.Adopting.{IsVersion}
use Rattle.sqlite.specs.declared.error.Error.{Error}
use Rattle.imap_tables.proofs.Zipped.{if_refused}
use Rattle.imap_restore.proofs.Listed.{contains_has}
use Rattle.imap_sql_keeper.proofs.adopting.have_version.Goals as goal

pub returns-in_err-is_version-clause-unread : goal.returns-in_err-is_version-clause-unread
returns-in_err-is_version-clause-unread c =
    let error : Error = c.in_err-is_version.field-0.0 in
    if_refused _ c.from_residual.result error (search rules)
    (λ other all. c.in_err-is_version.ensures.unread other (all c.row-item.result (contains_has c.args.rows.now c.row-item.result (c.rows.row-index, c.rows-test.true, sym c.row-item.is))))

pub rows-preserved : goal.rows-preserved
rows-preserved c row h version =
    let rows : List Row = c.args.rows.now in
    let cut : drop c.rows.row-index rows ≡ c.row-item.result ∷ drop (c.rows.row-index + 1) rows =
    drop_more rows c.rows.row-index c.row-item.result c.rows-test.true ∙ ap (λ y. y ∷ drop (c.rows.row-index + 1) rows) (sym c.row-item.is) in
    let after : Has (c.row-item.result ∷ drop (c.rows.row-index + 1) rows) row = subst (λ l. Has l row) cut (c.rows.invariant row h version) in
    elim after [
      | inl is ↦ absurd (true≢false (sym (c.in_ok-is_version.ensures.ok.1 (subst (IsVersion c.args.version) is version)) ∙ c.if-branch.false))
      | inr later ↦ later
    ]

pub returns-then-branch-clause-ok : goal.returns-then-branch-clause-ok
returns-then-branch-clause-ok c = (
  λ yes. (c.row-item.result, contains_has c.args.rows.now c.row-item.result (c.rows.row-index, c.rows-test.true, sym c.row-item.is), c.in_ok-is_version.ensures.ok.0 c.if-branch.true),
  λ it. refl,
)

pub returns-clause-ok : goal.returns-clause-ok
returns-clause-ok c = (
  λ yes. absurd (true≢false (sym yes)),
  λ it. absurd (subst (λ l. Has l it.0) (drop_of_length-le c.args.rows.now (omega (arith, c.rows-test.false))) (c.rows.invariant it.0 it.1 it.2)),
)
