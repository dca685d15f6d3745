use Rattle.std.proofs.Common.{inl, inr, sym, subst, ◌∙◌}
use Rattle.std.specs.List.{AllByRecursion}
use Rattle.imap_print.specs.Lines.{IsPrintable}
use Rattle.std.proofs.lemmas.Bool.{eqb-true}
use Rattle.imap_session.specs.InStep.{NoneHeldBack}
use Rattle.imap_session.proofs.Telling.{nothing_is, delta_brings}
use Rattle.imap_session.proofs.known_list.KnownList.notices.Goals.{then-not-options, else-not-options}
use Rattle.imap_session.proofs.known_list.KnownList.notices.Goals as goal

pub returns-then-len-clause-lines : goal.returns-then-len-clause-lines
returns-then-len-clause-lines g c =
    let rows = g.C.RowCursor.rest c.args.rows.now in
    let quiet : NoneHeldBack c.args.options.now.expunges c.args.self.now.list rows =
    elim c.if-not-options.branch [
      | then-not-options w ↦ inl w.if-not-options.true
      | else-not-options w ↦ inr (sym w.len.ensures.count ∙ eqb-true w.len.result w.len-else-not-options.result (sym w.value-is ∙ c.if-len.true) ∙ w.len-else-not-options.ensures)
    ] in
    c.no_notices.ensures.lines
    ∙ sym (nothing_is c.args.told.now c.args.options.now c.args.up_to c.args.highest c.args.self.now.list rows c.requires.step.0 c.requires.step.1 c.if-highest-up_to.true quiet).lines

pub returns-then-len-clause-delta : goal.returns-then-len-clause-delta
returns-then-len-clause-delta g c =
    let rows = g.C.RowCursor.rest c.args.rows.now in
    let quiet : NoneHeldBack c.args.options.now.expunges c.args.self.now.list rows =
    elim c.if-not-options.branch [
      | then-not-options w ↦ inl w.if-not-options.true
      | else-not-options w ↦ inr (sym w.len.ensures.count ∙ eqb-true w.len.result w.len-else-not-options.result (sym w.value-is ∙ c.if-len.true) ∙ w.len-else-not-options.ensures)
    ] in
    let e = c.no_notices.ensures in
    (nothing_is c.args.told.now c.args.options.now c.args.up_to c.args.highest c.args.self.now.list rows c.requires.step.0 c.requires.step.1 c.if-highest-up_to.true quiet).delta
    c.no_notices.result.delta e.changed e.gone e.added

pub returns-then-len-clause-brings : goal.returns-then-len-clause-brings
returns-then-len-clause-brings g c =
    delta_brings c.args.options.now c.args.up_to c.args.highest c.args.self.now.list (g.C.RowCursor.rest c.args.rows.now) c.requires.step.0 c.no_notices.result.delta c.requires.step.1
    (returns-then-len-clause-delta g c)

pub returns-then-len-clause-printable : goal.returns-then-len-clause-printable
returns-then-len-clause-printable g c = subst (AllByRecursion IsPrintable) (sym c.no_notices.ensures.lines) tt
