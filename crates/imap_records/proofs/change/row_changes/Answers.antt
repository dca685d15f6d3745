use Rattle.std.proofs.Common.{sym, ap, subst, ◌∙◌}
use Rattle.std.specs.List.{AllByRecursion}
use Rattle.imap_records.specs.Bounds.{AreBounded, AreNamed}
use Rattle.imap_records.specs.Steps.{steps_of}
use Rattle.imap_records.specs.Values.{WriteHasValues}
use Rattle.imap_records.proofs.Valued.{change_keeps}
use Rattle.imap_records.proofs.Writes.{change_stands, current_is_bounded}
use Rattle.imap_records.proofs.change.row_changes.Goals as goal

pub rows_of_writes-requires : goal.rows_of_writes-requires
rows_of_writes-requires c = subst AreBounded (sym c.writes.ensures) (current_is_bounded c.args.change.now c.requires.0 c.requires.1)

pub returns-clause-stands : goal.returns-clause-stands
returns-clause-stands c =
    change_stands c.args.change.now c.in_ok-changes.changes.items (c.in_ok-changes.ensures.rows ∙ ap steps_of c.writes.ensures) (subst AreNamed c.writes.ensures c.in_ok-changes.ensures.valid)

pub returns-clause-values : goal.returns-clause-values
returns-clause-values c = change_keeps c.args.change.now (subst (AllByRecursion WriteHasValues) c.writes.ensures c.in_ok-changes.ensures.values)
