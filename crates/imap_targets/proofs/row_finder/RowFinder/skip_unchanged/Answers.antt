use Rattle.std.proofs.Common.{◌≡◌, not, sym, ap, ◌∙◌}
use Rattle.imap_targets.proofs.Named.{row_nowhere, row_within, unchanged_at}
use Rattle.imap_targets.specs.MessageNumbers.{is_unchanged}
use Rattle.imap_targets.proofs.row_finder.RowFinder.skip_unchanged.Goals as goal

pub is_above-requires : goal.is_above-requires
is_above-requires c = row_within c.args.uid c.args.rows.now c.in-Some.index (sym c.index_near.ensures ∙ c.in-Some.is)

pub returns-then-is_above : goal.returns-then-is_above
returns-then-is_above c =
    sym (unchanged_at c.args.uid c.args.number c.args.rows.now c.in-Some.index c.is_above.result (sym c.index_near.ensures ∙ c.in-Some.is) c.is_above.ensures ∙ ap not c.if-is_above.true)

pub returns-else-is_above : goal.returns-else-is_above
returns-else-is_above c =
    sym (unchanged_at c.args.uid c.args.number c.args.rows.now c.in-Some.index c.is_above.result (sym c.index_near.ensures ∙ c.in-Some.is) c.is_above.ensures ∙ ap not c.if-is_above.false)

pub returns-in-None : goal.returns-in-None
returns-in-None c = sym (ap (is_unchanged c.args.number) (row_nowhere c.args.uid c.args.rows.now (sym c.index_near.ensures ∙ c.in-None.is)))
