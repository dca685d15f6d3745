-- How strings, sets and flags are written.
use Rattle.std.specs.Prelude.{◌≡◌, ℕ, Bool, true, false, not, ◌==◌, ◌&&◌, ◌||◌, nat_lt, List, [], ◌∷◌}
use Rattle.std.specs.Prelude.{◌++◌, length, codes, decimal, flat_map, if◌then◌else◌}
use Rattle.std.specs.List.{list_any}
use Rattle.imap_syntax.specs.declared.set.SeqNumber.{SeqNumber}
use Rattle.imap_syntax.specs.declared.set.SeqNumber.TheVariants as number
use Rattle.imap_syntax.specs.declared.set.SeqRange.{SeqRange}
use Rattle.imap_syntax.specs.declared.set.MessageSet.{MessageSet}
use Rattle.imap_syntax.specs.declared.set.MessageSet.TheVariants as messages
use Rattle.imap_syntax.specs.declared.flag.Flag.{Flag}
use Rattle.imap_syntax.specs.declared.flag.Flag.TheVariants as flag
use Rattle.imap_syntax.specs.declared.system_flag.SystemFlag.TheVariants as system
use Rattle.imap_syntax.specs.Lexical.{is_astring_char, is_quoted_special, has_nul}
pub use Rattle.imap_syntax.specs.Atoms.{atom}
pub use Rattle.imap_syntax.specs.SystemFlags.{is_other, other_fits}
use Rattle.imap_syntax.specs.Flags.{flag_name}
use Rattle.imap_syntax.specs.Writing as writing
use Rattle.imap_syntax.specs.Writing.{Writing, some_of, separated}

-- NUL, CR and LF
abbrev pub is_unquotable : ℕ → Bool
is_unquotable b = b == 0 || b == 13 || b == 10

-- none of them stands in it
abbrev pub is_quotable : List ℕ → Bool
is_quotable octets = not (list_any is_unquotable octets)

-- a quoted-special with a backslash before it
abbrev pub escaped : ℕ → List ℕ
escaped b = if is_quoted_special b then 92 ∷ b ∷ [] else b ∷ []

abbrev pub quoted_text : List ℕ → List ℕ
quoted_text octets = 34 ∷ flat_map escaped octets ++ 34 ∷ []

-- `quoted`
abbrev pub quoted : Writing (List ℕ)
quoted = record { fits = is_quotable; text = quoted_text }

abbrev pub literal_text : List ℕ → List ℕ
literal_text octets = codes "{" ++ decimal (length octets) ++ codes "}\r\n" ++ octets

-- the most octets that are written in quotes
abbrev pub max_quoted_octets : ℕ
max_quoted_octets = 255

-- the most octets that a literal can announce
abbrev pub max_announced_octets : ℕ
max_announced_octets = 18446744073709551615

-- The octets are written in quotes: they are quotable and few, or too many for a literal, as no octets in
-- memory are.
abbrev pub is_written_quoted : List ℕ → Bool
is_written_quoted octets =
    (not (nat_lt max_quoted_octets (length octets)) || nat_lt max_announced_octets (length octets))
    && is_quotable octets

-- `string`: a short quotable text in quotes, all else as a literal
abbrev pub string : Writing (List ℕ)
string = record {
  fits = λ octets.
      is_quotable octets || (not (has_nul octets) && nat_lt (length octets) 18446744073709551616);
  text = λ octets. if is_written_quoted octets then quoted_text octets else literal_text octets;
}

-- octets of the class alone as they are, all else as a string
abbrev pub bare_or_string : (ℕ → Bool) → Writing (List ℕ)
bare_or_string test = record {
  fits = string.fits;
  text = λ octets. if (some_of test).fits octets then octets else string.text octets;
}

-- `astring`: an atom string as it is, all else as a string
abbrev pub astring : Writing (List ℕ)
astring = bare_or_string is_astring_char

-- `nz-number64`
abbrev pub nz_number64 : Writing ℕ
nz_number64 = writing.number 1 9223372036854775807

abbrev pub IsNzNumber64 : ℕ → Type 0
IsNzNumber64 n = nz_number64.fits n ≡ true

-- `mod-sequence-value` (RFC 7162, section 7)
abbrev pub mod_sequence : Writing ℕ
mod_sequence = nz_number64

-- `mod-sequence-valzer`, and `number64`
abbrev pub number64 : Writing ℕ
number64 = writing.number 0 9223372036854775807

-- ---- sets

abbrev pub number_fits : SeqNumber → Bool
number_fits number.Last = true
number_fits (number.Number n) = (writing.number 1 4294967295).fits n

abbrev pub number_text : SeqNumber → List ℕ
number_text number.Last = codes "*"
number_text (number.Number n) = decimal n

abbrev pub is_same : SeqNumber → SeqNumber → Bool
is_same number.Last number.Last = true
is_same number.Last (number.Number n) = false
is_same (number.Number m) number.Last = false
is_same (number.Number m) (number.Number n) = m == n

abbrev pub range_text : SeqRange → List ℕ
range_text range =
    if is_same range.first range.last
    then number_text range.first
    else number_text range.first ++ 58 ∷ number_text range.last

-- `seq-number` / `seq-range`: one number, or both ends
abbrev pub seq_range : Writing SeqRange
seq_range = record { fits = λ range. number_fits range.first && number_fits range.last; text = range_text }

abbrev pub seq_set : Writing (List SeqRange)
seq_set = separated 44 seq_range

abbrev pub set_fits : MessageSet → Bool
set_fits messages.Saved = true
set_fits (messages.Numbers ranges) = seq_set.fits ranges

abbrev pub set_text : MessageSet → List ℕ
set_text messages.Saved = codes "$"
set_text (messages.Numbers ranges) = seq_set.text ranges

abbrev pub message_set : Writing MessageSet
message_set = record { fits = set_fits; text = set_text }

-- ---- flags

abbrev pub flag_fits : Flag → Bool
flag_fits (flag.Other word) = other_fits word
flag_fits (flag.Keyword word) = atom.fits word
flag_fits _ = true

abbrev pub flag_text : Flag → List ℕ
flag_text flag.Answered = 92 ∷ flag_name system.Answered
flag_text flag.Deleted = 92 ∷ flag_name system.Deleted
flag_text flag.Draft = 92 ∷ flag_name system.Draft
flag_text flag.Flagged = 92 ∷ flag_name system.Flagged
flag_text flag.Seen = 92 ∷ flag_name system.Seen
flag_text (flag.Other word) = 92 ∷ word
flag_text (flag.Keyword word) = word

abbrev pub message_flag : Writing Flag
message_flag = record { fits = flag_fits; text = flag_text }
