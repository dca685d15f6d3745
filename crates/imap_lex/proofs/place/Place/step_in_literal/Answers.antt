use Rattle.std.proofs.Common.{◌<◌, arith}
use Rattle.imap_lex.proofs.Steps.{literal_step}
use Rattle.imap_lex.proofs.place.Place.step_in_literal.Goals as goal

pub returns-clause-outcome : goal.returns-clause-outcome
returns-clause-outcome c = λ limit octets so_far.
    let len = c.min-len.result in
    let some : 0 < c.args.left = rw c.requires.part at c.requires.stands.part in
    rw c.requires.part (literal_step limit octets c.args.piece.now c.args.left c.args.self.outside c.args.self.room len _ some (omega arith) (omega arith) c.of_literal.ensures.part)
