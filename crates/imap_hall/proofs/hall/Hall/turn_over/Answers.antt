use Rattle.std.proofs.Common.{rules, ◌∙◌, ◌+◌, ap, subst}
use Rattle.imap_saving.specs.Machine.{Machine}
use Rattle.imap_hall.specs.Hall.{HallState, IsTurnedOver, hall_state}
use Rattle.imap_hall.specs.Journal.{point}
use Rattle.imap_hall.proofs.Kept.{alike_view, kept_alike, kept_turned, turned}
use Rattle.imap_hall.proofs.Stepped.{on_err}
use Rattle.imap_hall.proofs.hall.Hall.turn_over.Goals as goal

pub invariant_of-self : goal.invariant_of-self
invariant_of-self g c =
    kept_alike g.K.Keeper.content c.self.inside.core c.base_of.new.core c.self.inside.base c.self.inside.counts.map c.self.inside.base_counts.map c.self.inside.before c.self.inside.journal.items c.self.inside.keeper
    c.self.invariant c.base_of.ensures.kept

pub returns-in_err-base-clause-err : goal.returns-in_err-base-clause-err
returns-in_err-base-clause-err g c =
    on_err c.from_residual-in_err-base.result
    (alike_view c.self.inside.core c.base_of.new.core c.self.inside.base c.self.inside.counts.map c.self.inside.base_counts.map c.self.inside.before c.self.inside.journal.items c.self.inside.keeper c.base_of.ensures.kept
    ∙ c.self.view_is)

pub invariant_of-self-2 : goal.invariant_of-self-2
invariant_of-self-2 g c =
    kept_turned g.K.Keeper.content c.self.inside.core c.base_of.new.core c.self.inside.base c.replace.new.dest c.self.inside.counts.map c.self.inside.base_counts.map c.replace-2.new.dest.map c.self.inside.before c.len.result c.self.inside.journal.items c.clear.new.self.items c.self.inside.keeper
    c.self.invariant c.base_of.ensures.kept (ap (λ (m : Machine). m.state) c.replace.ensures.after ∙ c.in_ok-base.ensures.ok) (ap (λ m. m.map) c.replace-2.ensures.after ∙ c.in_ok-counts.ensures) (search rules) c.clear.ensures.items

pub returns-clause-ok : goal.returns-clause-ok
returns-clause-ok g c =
    let after : HallState g.row.K.Denot = hall_state c.base_of.new.core c.self.inside.counts.map c.replace.new.dest c.replace-2.new.dest.map (c.self.inside.before + c.len.result) c.clear.new.self.items c.self.inside.keeper in
    subst (λ h. IsTurnedOver h after) c.self.view_is
    (turned c.self.inside.core c.base_of.new.core c.self.inside.base c.replace.new.dest c.self.inside.counts.map c.self.inside.base_counts.map c.replace-2.new.dest.map c.self.inside.before c.len.result c.self.inside.journal.items c.clear.new.self.items c.self.inside.keeper
    c.base_of.ensures.kept (ap (λ (m : Machine). m.state) c.replace.ensures.after ∙ c.in_ok-base.ensures.ok) (ap (λ m. m.map) c.replace-2.ensures.after ∙ c.in_ok-counts.ensures) (search rules) c.clear.ensures.items)

pub returns-clause-old : goal.returns-clause-old
returns-clause-old g c = (λ i. point (c.replace.ensures.value i).state (c.replace-2.ensures.value i).map) ∙ ap (λ (h : HallState g.row.K.Denot). h.base) c.self.view_is
