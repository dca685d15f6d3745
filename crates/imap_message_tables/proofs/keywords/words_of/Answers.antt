use Rattle.std.proofs.Common.{ap, map, string_bytes}
use Rattle.imap_message_tables.proofs.Pieces.{unless_plain, unless_rising}
use Rattle.imap_message_tables.proofs.keywords.words_of.Goals as goal

pub returns-then-not-rise : goal.returns-then-not-rise
returns-then-not-rise c =
    unless_rising c.args.text.now (map string_bytes c.in_ok-words.words.items) (map string_bytes c.as_slice.result.now) c.rise.result c.in_ok-words.ensures (ap (map string_bytes) c.as_slice.ensures.value) c.rise.ensures.1 c.if-not-rise.true

pub returns-then-not-are_plain : goal.returns-then-not-are_plain
returns-then-not-are_plain c =
    unless_plain c.args.text.now (map string_bytes c.in_ok-words.words.items) (map string_bytes c.as_slice-2.result.now) c.are_plain.result c.in_ok-words.ensures (ap (map string_bytes) c.as_slice-2.ensures.value) c.are_plain.ensures.1 c.if-not-are_plain.true
