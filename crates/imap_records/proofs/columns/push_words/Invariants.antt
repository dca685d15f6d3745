use Rattle.std.proofs.Common.{◌≡◌, ◌++◌, drop}
use Rattle.std.specs.Str.{IsAscii}
use Rattle.imap_records.specs.Columns.{words_behind}
use Rattle.imap_records.proofs.columns.push_words.Given as goal

abbrev pub invariant-loop-word : goal.invariant-loop-word
invariant-loop-word l = record {
  words : l.octets.items ++ words_behind (drop l.word-index l.words) ≡ l.fn.octets.items ++ words_behind l.words;
  ascii : IsAscii l.fn.octets.items → IsAscii l.octets.items;
}
