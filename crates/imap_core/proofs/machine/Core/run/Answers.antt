use Rattle.std.proofs.Common.{◌≡◌, ◌+◌, ◌++◌, map, drop, sym, ap, subst, ◌∙◌, arith}
use Rattle.std.specs.List.{AllByRecursion}
use Rattle.imap_print.specs.Lines.{IsPrintable}
use Rattle.std.proofs.lemmas.List.{map_push}
use Rattle.imap_core.specs.Machine.{State, answers, next}
use Rattle.imap_core.specs.Planned.{ArePrintable, replies_in, state_after}
use Rattle.imap_core.proofs.Composed.{answers_isolated}
use Rattle.imap_core.proofs.Runs.{all-push, this_step, told_all, told_on, rest_on, made_on}
use Rattle.imap_core.proofs.machine.Core.run.Goals as goal

pub loop-step-preserved : goal.loop-step-preserved
loop-step-preserved c =
    let before : State = c.loop-step.self.state in
    let after : State = c.commit.new.self.state in
    let made : after ≡ next before c.step-item.result = c.commit.ensures.state ∙ ap (state_after c.in_ok-prepared.prepared) c.prepare.ensures.unchanged ∙ c.in_ok-prepared.ensures.next in
    let cut = this_step c.args.steps.now c.loop-step.step-index c.step-item.result c.loop-step-test.true c.step-item.is in
    let told = told_on before after c.step-item.result made _ (drop (c.loop-step.step-index + 1) c.args.steps.now) cut _ _ _ (c.commit.ensures.replies ∙ c.in_ok-prepared.ensures.replies) c.loop-step.invariant.told in
    record {
      told = ap (λ said. said ++ answers after (drop (c.loop-step.step-index + 1) c.args.steps.now)) (ap (map (λ replies. replies.items)) c.push_reserved.ensures.items ∙ map_push (λ replies. replies.items) c.loop-step.said.items c.commit.result) ∙ told;
      rest = rest_on before after c.step-item.result made _ _ cut _ c.loop-step.invariant.rest;
      made = made_on c.args.self.now.state before after c.args.steps.now c.loop-step.step-index c.step-item.result made c.loop-step-test.true c.step-item.is c.loop-step.invariant.made;
      printable = subst (AllByRecursion ArePrintable) (sym c.push_reserved.ensures.items)
          (all-push ArePrintable c.loop-step.said.items c.commit.result c.loop-step.invariant.printable
          (subst (AllByRecursion IsPrintable) (sym c.commit.ensures.replies) c.in_ok-prepared.ensures.printable));
      count = omega (arith, c.push_reserved.ensures.len, c.loop-step.invariant.count);
      room = omega (arith, c.push_reserved.ensures.capacity, c.loop-step.invariant.room);
    }

pub returns-clause-isolated : goal.returns-clause-isolated
returns-clause-isolated c =
    let is = told_all c.loop-step.self.state c.args.self.now.state c.args.steps.now c.loop-step.step-index (replies_in c.loop-step.said) (omega (arith, c.loop-step-test.false)) c.loop-step.invariant.told in
    answers_isolated c.isolation_of_replies.ensures c.args.self.now.state c.args.steps.now (replies_in c.loop-step.said) is
