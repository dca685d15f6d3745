use Rattle.imap_lex.proofs.FirstLine.{line_length-end, line_length-none}
use Rattle.imap_lex.proofs.line.line_length.Goals as goal

pub returns-in-After : goal.returns-in-After
returns-in-After c = line_length-end c.args.octets.now c.in-After.len c.in-After.ensures.0

pub returns-in-Missing : goal.returns-in-Missing
returns-in-Missing c = let found = rw c.in-Missing.is at c.line_end.ensures in line_length-none c.args.octets.now found.0
