use Rattle.std.proofs.Common.{◌∙◌, Ok, ap, sym}
use Rattle.imap_core.specs.Planned.{change_of}
use Rattle.imap_core.specs.declared.machine.Prepared.{Prepared}
use Rattle.imap_saving.proofs.Written.{current, unwritten}
use Rattle.imap_saving.proofs.ready.make_ready.Goals as goal

pub returns-clause-current : goal.returns-clause-current
returns-clause-current c =
    current c.args.core.now.state c.args.step.now (change_of c.in_ok-copies.prepared)
    (c.in_ok-prepared.ensures.change ∙ ap (λ (p : Prepared). Ok (change_of p)) (sym c.in_ok-copies.ensures.rest))

pub returns-clause-unwritten : goal.returns-clause-unwritten
returns-clause-unwritten c =
    unwritten c.args.core.now.state c.args.step.now (change_of c.in_ok-copies.prepared)
    (c.in_ok-prepared.ensures.change ∙ ap (λ (p : Prepared). Ok (change_of p)) (sym c.in_ok-copies.ensures.rest))
