use Rattle.std.proofs.Common.{arith}
use Rattle.imap_names.proofs.Spelling.{meets_end, ends_before, differs}
use Rattle.imap_names.proofs.wildcards.meet.Goals as goal

pub returns-then-n-len : goal.returns-then-n-len
returns-then-n-len c = meets_end c.args.pattern.now c.args.text.now c.spelled-n.result c.spelled-n.ensures.same (omega arith) (omega arith)

pub returns-else-n-len : goal.returns-else-n-len
returns-else-n-len c = ends_before c.args.pattern.now c.args.text.now c.spelled-n.result (omega arith) (omega arith) c.spelled-n.ensures.same

pub returns-in-Octet : goal.returns-in-Octet
returns-in-Octet c = differs c.args.pattern.now c.args.text.now c.spelled-n.result c.in-Octet.field-0 (omega arith) c.spelled-n.ensures.same c.in-Octet.is (c.spelled-n.ensures.stops (omega arith))
