use Rattle.std.proofs.Common.{arith}
use Rattle.imap_session.proofs.RowsRise.{rows_rise}
use Rattle.imap_session.proofs.select.known_list.Goals as goal

pub of_rows-requires : goal.of_rows-requires
of_rows-requires c = rows_rise c.args.next_uid c.args.rows.now c.requires (omega (arith, c.ranges.next_uid.fits))
