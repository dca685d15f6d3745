use Rattle.std.proofs.Common.{map, take, string_bytes}
use Rattle.imap_message_tables.specs.Split.{AreRising}
use Rattle.imap_message_tables.proofs.plain.rise.Given as goal

abbrev pub invariant-loop-i : goal.invariant-loop-i
invariant-loop-i l = AreRising (map string_bytes (take l.i l.words))
