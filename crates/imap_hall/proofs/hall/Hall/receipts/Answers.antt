use Rattle.std.proofs.Common.{rules, subst, IfOk, OnErr}
use Rattle.imap_hall.specs.Hall.{HallState, IsUntouched, hall_state}
use Rattle.imap_hall.specs.Saving.{IsAlone}
use Rattle.imap_hall.proofs.Kept.{kept_result, untouched_result}
use Rattle.imap_hall.proofs.hall.Hall.receipts.Goals as goal

pub invariant_of-self : goal.invariant_of-self
invariant_of-self g c =
    kept_result g.K.Keeper.content c.self.inside.core c.advance.new.core c.self.inside.base c.self.inside.counts.map c.advance.new.counts.map c.self.inside.base_counts.map c.self.inside.before c.self.inside.journal.items c.advance.new.journal.items c.self.inside.keeper c.advance.new.keeper
    c.self.invariant c.args.step.now (g.K.Keeper.failed c.self.inside.keeper) (g.K.Keeper.failed c.advance.new.keeper) c.advance.result
    c.advance.ensures.entries c.advance.ensures.own c.advance.ensures.counts c.advance.ensures.made c.advance.ensures.err c.advance.ensures.saved.stored (search rules)

pub returns-clause-err : goal.returns-clause-err
returns-clause-err g c =
    let after : HallState g.row.K.Denot = hall_state c.advance.new.core c.advance.new.counts.map c.self.inside.base c.self.inside.base_counts.map c.self.inside.before c.advance.new.journal.items c.advance.new.keeper in
    subst (λ h. OnErr c.advance.result (IsUntouched g.K.Keeper.failed h after)) c.self.view_is
    (untouched_result g.K.Keeper.failed c.self.inside.core c.advance.new.core c.self.inside.base c.self.inside.counts.map c.advance.new.counts.map c.self.inside.base_counts.map c.self.inside.before c.self.inside.journal.items c.advance.new.journal.items c.self.inside.keeper c.advance.new.keeper c.advance.result c.advance.ensures.err)

pub returns-clause-alone : goal.returns-clause-alone
returns-clause-alone g c =
    subst (λ (h : HallState g.row.K.Denot). IfOk c.advance.result (λ r. IsAlone g.K.Keeper.failed g.K.Keeper.is_honest g.K.Keeper.leaves g.K.Keeper.stands h.now.state h.keeper c.args.step.now r.0.replies c.advance.new.core.state c.advance.new.keeper)) c.self.view_is
    c.advance.ensures.alone
