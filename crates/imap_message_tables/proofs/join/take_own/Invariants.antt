use Rattle.std.proofs.Common.{◌≡◌, ◌++◌, map, reverse, string_bytes}
use Rattle.imap_message_tables.specs.Joining.{head_key, texts}
use Rattle.imap_message_tables.specs.Up.{own_of, rest_of}
use Rattle.imap_message_tables.proofs.join.take_own.Given as goal

abbrev pub invariant-loop-words : goal.invariant-loop-words
invariant-loop-words l = record {
  own : map string_bytes l.own.items ++ texts (own_of (head_key l.fn.head) (reverse l.words.items)) ≡ texts (own_of (head_key l.fn.head) (reverse l.fn.words.items));
  rest : rest_of (head_key l.fn.head) (reverse l.words.items) ≡ rest_of (head_key l.fn.head) (reverse l.fn.words.items);
}

abbrev pub decreases-loop-words : goal.decreases-loop-words
decreases-loop-words l = goal.left-loop-words l
