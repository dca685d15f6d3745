use Rattle.imap_answer.proofs.Printable.{refused_printable}
use Rattle.imap_answer.proofs.command_context.refused_line.Goals as goal

pub returns-in_err-try_copy-clause-printable : goal.returns-in_err-try_copy-clause-printable
returns-in_err-try_copy-clause-printable c = refused_printable c.args.tag.now c.args.refusal c.try_copy.ensures.valid

pub returns-clause-printable : goal.returns-clause-printable
returns-clause-printable c = refused_printable c.args.tag.now c.args.refusal c.try_copy.ensures.valid
