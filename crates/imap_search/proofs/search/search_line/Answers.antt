use Rattle.imap_search.proofs.Looked.{search_printable}
use Rattle.imap_search.proofs.search.search_line.Goals as goal

pub returns-in_err-try_copy-clause-printable : goal.returns-in_err-try_copy-clause-printable
returns-in_err-try_copy-clause-printable c = search_printable c.tag.result.now c.args.context.now.tag c.args.uid c.args.results c.tag.ensures c.try_copy.ensures.valid

pub returns-clause-printable : goal.returns-clause-printable
returns-clause-printable c = search_printable c.tag.result.now c.args.context.now.tag c.args.uid c.args.results c.tag.ensures c.try_copy.ensures.valid
