use Rattle.std.proofs.Common.{map, take, string_bytes}
use Rattle.std.specs.List.{AllByRecursion}
use Rattle.imap_message_tables.specs.Split.{IsPlain}
use Rattle.imap_message_tables.proofs.plain.are_plain.Given as goal

abbrev pub invariant-loop-word : goal.invariant-loop-word
invariant-loop-word l = AllByRecursion IsPlain (map string_bytes (take l.word-index l.words))
