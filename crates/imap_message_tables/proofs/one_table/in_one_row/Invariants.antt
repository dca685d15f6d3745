use Rattle.std.proofs.Common.{length, reverse}
use Rattle.imap_message_tables.specs.OneTable.{IsInOneRow}
use Rattle.imap_tables.proofs.Zipped.{HasRead}
use Rattle.imap_message_tables.proofs.one_table.in_one_row.Given as goal

abbrev pub invariant-joined : goal.invariant-joined
invariant-joined l = HasRead IsInOneRow l.fn.joined.items (reverse l.joined.items) l.messages.items

abbrev pub decreases-joined : goal.decreases-joined
decreases-joined l = length l.joined.items
