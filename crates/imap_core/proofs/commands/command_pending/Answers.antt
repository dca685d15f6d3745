use Rattle.std.proofs.Common.{◌≡◌, List, ℕ, Some, IfOk, refl, subst}
use Rattle.std.specs.Prelude.{◌≢◌}
use Rattle.imap_commands.specs.declared.command.Command.{Command}
use Rattle.imap_commands.specs.declared.command.Command.TheVariants as command
use Rattle.imap_commands.specs.declared.commands.select.SelectParameters.{SelectParameters}
use Rattle.imap_session.specs.State.{SessionState, state_of}
use Rattle.imap_syntax.specs.Moments.{Moment}
use Rattle.imap_view.specs.View.{View}
use Rattle.imap_sessions.specs.Notices.{may_tell_expunges}
use Rattle.imap_core.specs.Outcome.{Outcome}
use Rattle.imap_core.specs.Pending.{completed}
use Rattle.imap_core.specs.Answers.{command_answer}
use Rattle.imap_core.specs.Reply.{command_outcome, outcome_of_answer}
use Rattle.imap_core.proofs.commands.command_pending.Goals as goal

-- a command that doesn't begin an IDLE, end its session or select a mailbox, or none
others : (view : View) (own : SessionState) (tag : List ℕ) (at : Moment) (asked : Command) → asked ≢ command.Idle → asked ≢ command.Logout → asked ≢ command.Close → asked ≢ command.Unselect
    → ((mailbox : List ℕ) (parameters : SelectParameters) → asked ≢ command.Select mailbox parameters) → ((mailbox : List ℕ) (parameters : SelectParameters) → asked ≢ command.Examine mailbox parameters)
    → outcome_of_answer view own (may_tell_expunges asked) (command_answer view own tag at asked) ≡ command_outcome view own tag at asked
others view own tag at command.Idle idle logout close unselect select examine = absurd (idle refl)
others view own tag at command.Logout idle logout close unselect select examine = absurd (logout refl)
others view own tag at command.Close idle logout close unselect select examine = absurd (close refl)
others view own tag at command.Unselect idle logout close unselect select examine = absurd (unselect refl)
others view own tag at (command.Select mailbox parameters) idle logout close unselect select examine = absurd (select mailbox parameters refl)
others view own tag at (command.Examine mailbox parameters) idle logout close unselect select examine = absurd (examine mailbox parameters refl)
others view own tag at asked idle logout close unselect select examine = refl

pub returns-in_default : goal.returns-in_default
returns-in_default c =
    let view = c.args.context.now.view in
    let own = state_of c.args.session.now in
    record {
      outcome = subst (λ (meant : Outcome). IfOk c.answer_pending.result (λ p. completed view (Some own) p ≡ meant))
          (others view own c.args.context.now.tag c.args.context.now.at c.args.command.now c.requires.not_idle c.in_default.not-Logout c.in_default.not-Close c.in_default.not-Unselect (λ m p. c.in_default.not-Select m p) (λ m p. c.in_default.not-Examine m p)) c.answer_pending.ensures.outcome;
      completable = c.answer_pending.ensures.completable;
    }
