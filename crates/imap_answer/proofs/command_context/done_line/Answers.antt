use Rattle.imap_answer.proofs.Printable.{done_printable}
use Rattle.imap_answer.proofs.command_context.done_line.Goals as goal

pub returns-in_err-try_copy-clause-printable : goal.returns-in_err-try_copy-clause-printable
returns-in_err-try_copy-clause-printable c = done_printable c.args.tag.now c.args.code c.try_copy.ensures.valid

pub returns-clause-printable : goal.returns-clause-printable
returns-clause-printable c = done_printable c.args.tag.now c.args.code c.try_copy.ensures.valid
