use Rattle.std.proofs.Common.{arith}
use Rattle.imap_targets.proofs.RowsRise.{rows_fit}
use Rattle.imap_resync.proofs.changed.number_at.Goals as goal

pub overflow_cast-result : goal.overflow_cast-result
overflow_cast-result c = omega (arith, rows_fit c.args.next_uid c.args.rows.now c.requires.rise, c.requires.within, c.ranges.next_uid.fits)

pub overflow_add-result : goal.overflow_add-result
overflow_add-result c = omega (arith, rows_fit c.args.next_uid c.args.rows.now c.requires.rise, c.requires.within, c.ranges.next_uid.fits)
