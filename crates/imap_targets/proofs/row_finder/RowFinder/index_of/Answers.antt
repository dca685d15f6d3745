use Rattle.std.proofs.Common.{sym, ap, ◌∙◌, Some}
use Rattle.imap_targets.proofs.Named.{row_at, row_nowhere, row_within}
use Rattle.imap_targets.proofs.row_finder.RowFinder.index_of.Goals as goal

pub returns-in-Some-clause-within : goal.returns-in-Some-clause-within
returns-in-Some-clause-within c = row_within c.args.uid c.args.rows.now c.in-Some.index (sym c.index_near.ensures ∙ c.in-Some.is)

pub returns-in-Some-clause-there : goal.returns-in-Some-clause-there
returns-in-Some-clause-there c =
    λ row here. row_at c.args.uid c.args.rows.now c.in-Some.index row (sym c.index_near.ensures ∙ c.in-Some.is) ∙ ap Some (sym here)

pub returns-in-None-clause-gone : goal.returns-in-None-clause-gone
returns-in-None-clause-gone c = row_nowhere c.args.uid c.args.rows.now (sym c.index_near.ensures ∙ c.in-None.is)
