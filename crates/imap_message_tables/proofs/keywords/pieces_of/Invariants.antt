use Rattle.std.proofs.Common.{◌≡◌, ◌++◌, [], ◌∷◌, length, map, string_bytes}
use Rattle.std.specs.List.{AllByRecursion}
use denote.Shadow.{shadow}
use denote.Text.{Utf8}
use Rattle.imap_message_tables.specs.Split.{IsSpaceless, words_text}
use Rattle.imap_message_tables.proofs.keywords.pieces_of.Given as goal

abbrev pub invariant-loop-piece : goal.invariant-loop-piece
invariant-loop-piece l = record {
  joined : words_text (map string_bytes l.pieces.items ++ l.rest ∷ []) ≡ l.text;
  spaceless : AllByRecursion IsSpaceless (map string_bytes l.pieces.items);
  utf8 : shadow (Utf8 l.rest);
}

abbrev pub decreases-loop-piece : goal.decreases-loop-piece
decreases-loop-piece l = length l.rest
