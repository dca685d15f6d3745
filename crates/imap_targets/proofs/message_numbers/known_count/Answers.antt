use Rattle.std.proofs.Common.{arith}
use Rattle.imap_targets.proofs.Named.{known_fit}
use Rattle.imap_targets.proofs.message_numbers.known_count.Goals as goal

pub overflow_cast-result : goal.overflow_cast-result
overflow_cast-result c = omega (arith, known_fit c.args.known.now.list c.len.ensures.valid, c.len.ensures.count)
