use Rattle.std.proofs.Common.{◌≡◌, suc}
use Rattle.imap_commands.specs.commands.Login.{lines_up_to, lines_read}
use Rattle.imap_commands.proofs.commands.login.read_lines.Given as goal

abbrev pub invariant-loop-mark : goal.invariant-loop-mark
invariant-loop-mark l = (lines_up_to (suc l.left)).read l.cursor ≡ lines_read l.fn.cursor

abbrev pub decreases-loop-mark : goal.decreases-loop-mark
decreases-loop-mark l = l.left
