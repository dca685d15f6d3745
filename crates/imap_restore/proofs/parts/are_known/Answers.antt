use Rattle.std.proofs.Common.{◌≡◌, true, false, drop_of_length-le, arith, of_z, to_z, w64, sym, ap, ◌∙◌, rules, true≢false}
use Rattle.std.specs.BTreeSet as sorted
use Rattle.std.specs.List.{list_all}
use Rattle.std.specs.Ordering.{int_cmp}
use Rattle.imap_restore.proofs.Listed.{all_next, at_index}
use Rattle.imap_restore.proofs.parts.are_known.Goals as goal

pub returns-then-not-has_id : goal.returns-then-not-has_id
returns-then-not-has_id g c =
    let p = λ (row : g.row.R.Denot). sorted.contains int_cmp c.args.ids.now (g.T.Restore.mailbox row) in
    let same : to_z w64 (of_z w64 c.mailbox.result) ≡ g.T.Restore.mailbox c.row-item.result = search rules in
    let fails : p c.row-item.result ≡ false = ap (sorted.contains int_cmp c.args.ids.now) (sym same) ∙ sym c.has_id.ensures ∙ c.if-not-has_id.true in
    (λ h. absurd (true≢false (sym h)), λ all. absurd (true≢false (sym (at_index p c.args.rows.now c.rows.row-index c.row-item.result c.rows-test.true c.row-item.is all) ∙ fails)))

pub rows-preserved : goal.rows-preserved
rows-preserved g c =
    let p = λ (row : g.row.R.Denot). sorted.contains int_cmp c.args.ids.now (g.T.Restore.mailbox row) in
    let same : to_z w64 (of_z w64 c.mailbox.result) ≡ g.T.Restore.mailbox c.row-item.result = search rules in
    let passes : p c.row-item.result ≡ true = ap (sorted.contains int_cmp c.args.ids.now) (sym same) ∙ sym c.has_id.ensures ∙ c.if-not-has_id.false in
    sym (all_next p c.args.rows.now c.rows.row-index c.row-item.result c.rows-test.true c.row-item.is passes) ∙ c.rows.invariant

pub returns : goal.returns
returns g c =
    let p = λ (row : g.row.R.Denot). sorted.contains int_cmp c.args.ids.now (g.T.Restore.mailbox row) in
    let all : list_all p c.args.rows.now ≡ true = sym c.rows.invariant ∙ ap (list_all p) (drop_of_length-le c.args.rows.now (omega (arith, c.rows-test.false))) in
    (λ h. all, λ h. search rules)
