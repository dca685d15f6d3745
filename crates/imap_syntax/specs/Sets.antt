-- Sets of messages (RFC 9051, section 9).
use Rattle.std.specs.Prelude.{ℕ, ◌==◌, ◌||◌, Bool, true, false, List}
use Rattle.std.specs.Char.{is_ascii_digit}
use Rattle.imap_syntax.specs.declared.set.SeqNumber.{SeqNumber}
use Rattle.imap_syntax.specs.declared.set.SeqNumber.TheVariants as number
use Rattle.imap_syntax.specs.declared.set.SeqRange.{SeqRange}
use Rattle.imap_syntax.specs.declared.set.MessageSet.{MessageSet}
use Rattle.imap_syntax.specs.declared.set.MessageSet.TheVariants.{Saved, Numbers}
use Rattle.imap_syntax.specs.Rule.{Rule, give, ◌>>=◌, ◌>>◌, ◌<|>◌, octet, flag, separated}
use Rattle.imap_syntax.specs.Lexical.{nz_number}

-- `seq-number`: nz-number / *
abbrev pub seq_number : Rule SeqNumber
seq_number = (do octet 42; give number.Last) <|> (do n ← nz_number 4294967295; give (number.Number n))

abbrev pub range_from : SeqNumber → Bool → Rule SeqRange
range_from first false = give (record { first = first; last = first })
range_from first true = do
  last ← seq_number
  give (record { first = first; last = last })

-- `seq-number` / `seq-range`: one number, or two with : between
abbrev pub seq_range : Rule SeqRange
seq_range = do
  first ← seq_number
  colon ← flag 58
  range_from first colon

-- `sequence-set` without $: ranges with commas between
abbrev pub seq_set : Rule (List SeqRange)
seq_set = separated 44 seq_range

-- `sequence-set`: $ alone, or ranges
abbrev pub message_set : Rule MessageSet
message_set = (do octet 36; give Saved) <|> (do ranges ← seq_set; give (Numbers ranges))

-- what a set begins with: a digit, * or $
abbrev pub begins_set : ℕ → Bool
begins_set b = is_ascii_digit b || b == 42 || b == 36
