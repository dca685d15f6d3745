use Rattle.std.proofs.Common.{◌≡◌, ◌++◌, drop, map, string_bytes}
use Rattle.imap_message_tables.specs.Parts.{words_but}
use Rattle.imap_message_tables.proofs.keywords.without.Given as goal

abbrev pub invariant-words : goal.invariant-words
invariant-words l =
    map string_bytes l.left.items ++ words_but (map string_bytes (drop l.word-index l.words)) (map string_bytes l.others)
    ≡ words_but (map string_bytes l.words) (map string_bytes l.others)
