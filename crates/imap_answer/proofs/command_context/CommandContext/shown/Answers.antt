use Rattle.imap_answer.proofs.Printable.{shown_plain}
use Rattle.imap_answer.proofs.command_context.CommandContext.shown.Goals as goal

pub returns-in_err-text-clause-plain : goal.returns-in_err-text-clause-plain
returns-in_err-text-clause-plain c = shown_plain c.args.self.now.view.user c.args.name.now c.show_name.ensures.valid

pub returns-clause-plain : goal.returns-clause-plain
returns-clause-plain c = shown_plain c.args.self.now.view.user c.args.name.now c.show_name.ensures.valid
