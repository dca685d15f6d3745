use Rattle.std.proofs.Common.{None, subst}
use Rattle.imap_answer.proofs.Printable.{done_printable}
use Rattle.imap_lex.specs.CommandTag.{IsTag}
use Rattle.imap_core.proofs.idling.last_line.Goals as goal

pub returns-clause-printable : goal.returns-clause-printable
returns-clause-printable c = done_printable c.args.tag None (subst IsTag c.as_slice.ensures.octets c.as_slice.ensures.valid)
