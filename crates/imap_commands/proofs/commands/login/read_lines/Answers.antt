use Rattle.std.proofs.Common.{◌≡◌, ◌-◌, suc, sym, ◌∙◌, arith}
use Rattle.imap_commands.proofs.LoginLaws.{begins, ends_here, goes_on, refused, too_many}
use Rattle.imap_commands.proofs.commands.login.read_lines.Goals as goal

pub loop-mark-init : goal.loop-mark-init
loop-mark-init c = rw (c.rest-left.ensures) (begins c.args.cursor.now)

pub returns-in-None : goal.returns-in-None
returns-in-None c =
    ends_here c.loop-mark.left c.loop-mark.cursor c.read_line_rest-line.result.now c.read_line_rest-line.new.cursor _ c.loop-mark.invariant c.read_line_rest-line.ensures (sym c.in-None.is ∙ c.line_mark.ensures)

pub returns-in-Err : goal.returns-in-Err
returns-in-Err c =
    refused c.loop-mark.left c.loop-mark.cursor c.read_line_rest-line.result.now c.read_line_rest-line.new.cursor c.in-Some.mark c.in-Err.error _ c.loop-mark.invariant c.read_line_rest-line.ensures (sym c.in-Some.is ∙ c.line_mark.ensures) c.in-Err.ensures

pub returns-then-left-eq0 : goal.returns-then-left-eq0
returns-then-left-eq0 c =
    too_many c.loop-mark.left c.loop-mark.cursor c.read_line_rest-line.result.now c.read_line_rest-line.new.cursor c.read_announced_literal.new.cursor c.in-Some.mark _ c.if-left-eq0.true c.loop-mark.invariant c.read_line_rest-line.ensures (sym c.in-Some.is ∙ c.line_mark.ensures) c.in_default.ensures

pub loop-mark-preserved : goal.loop-mark-preserved
loop-mark-preserved c =
    let left : c.loop-mark.left ≡ suc (c.loop-mark.left - 1) = omega arith in
    goes_on c.loop-mark.left (c.loop-mark.left - 1) c.loop-mark.cursor c.read_line_rest-line.result.now c.read_line_rest-line.new.cursor c.read_announced_literal.new.cursor c.in-Some.mark _ left c.loop-mark.invariant c.read_line_rest-line.ensures (sym c.in-Some.is ∙ c.line_mark.ensures) c.in_default.ensures
