use Rattle.std.proofs.Common.{◌∙◌, ◌+◌, ◌≤◌, ap, sym, arith, ◌++◌, length, take, drop}
use Rattle.imap_lex.specs.Limits.{max_command_octets}
use Rattle.imap_lex.specs.Framing.{Outcome, line, after, run}
use Rattle.imap_lex.specs.Mark.{line_mark}
use Rattle.imap_lex.proofs.Runs.{run-unended}
use Rattle.imap_lex.proofs.Steps.{line_step, long_step, too_long}
use Rattle.imap_lex.proofs.place.Place.step_in_line.Goals as goal

pub returns-in-After-clause-outcome : goal.returns-in-After-clause-outcome
returns-in-After-clause-outcome c = λ limit octets.
    let len = c.in-After.len in
    let so_far = c.args.line.now ++ take len c.args.piece.now in
    let told = c.after_line.ensures.outcome limit (octets ++ take len c.args.piece.now) (line so_far) (line_mark so_far) c.line_mark.ensures in
    let fits : c.args.self.outside + len ≤ max_command_octets = omega (arith, c.in-After.ensures.1) in
    rw c.requires.part (line_step limit octets c.args.line.now c.args.piece.now c.args.self.outside c.args.self.room len c.in-After.ensures.0 fits
    ∙ ap (λ (o : Outcome). after o.frames (run o.next (drop len c.args.piece.now))) (sym told))

pub returns-in-Missing-clause-outcome : goal.returns-in-Missing-clause-outcome
returns-in-Missing-clause-outcome c = λ limit octets.
    rw c.requires.part (run-unended limit octets c.args.line.now c.args.piece.now c.args.self.outside c.args.self.room c.in-Missing.ensures.0 (omega (arith, c.in-Missing.ensures.1)))

pub returns-in-TooLong-clause-outcome : goal.returns-in-TooLong-clause-outcome
returns-in-TooLong-clause-outcome c = λ limit octets.
    rw c.requires.part (long_step limit octets c.args.line.now c.args.piece.now c.args.self.outside c.args.self.room _ c.in-TooLong.ensures.0 c.in-TooLong.ensures.1 (omega arith) ∙ too_long (drop (length c.args.piece.now) c.args.piece.now))
