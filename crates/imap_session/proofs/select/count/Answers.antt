use Rattle.std.proofs.Common.{arith}
use Rattle.imap_session.proofs.RowsRise.{rows_fit}
use Rattle.imap_session.proofs.select.count.Goals as goal

pub overflow_cast-result : goal.overflow_cast-result
overflow_cast-result c = omega (arith, rows_fit c.args.next_uid c.args.rows.now c.requires, c.len.ensures, c.ranges.next_uid.fits)
