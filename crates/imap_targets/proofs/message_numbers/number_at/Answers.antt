use Rattle.std.proofs.Common.{arith}
use Rattle.imap_targets.proofs.Named.{known_fit}
use Rattle.imap_targets.proofs.message_numbers.number_at.Goals as goal

pub overflow_cast-result : goal.overflow_cast-result
overflow_cast-result c = omega (arith, known_fit c.args.known.now.list c.len-count.ensures.valid, c.requires)

pub overflow_add-result : goal.overflow_add-result
overflow_add-result c = omega (arith, known_fit c.args.known.now.list c.len-count.ensures.valid, c.requires)
