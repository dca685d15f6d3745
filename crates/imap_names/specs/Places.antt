-- The places of a text as bits: bit n of a word stands for the place before the last n letters.
use Rattle.std.specs.Prelude.{◌≡◌, ℕ, ◌+◌, ◌-◌, ◌*◌, ◌/◌, ◌%◌, ◌^◌, ◌<◌, ◌≤◌, Bool, true, false, not, ◌&&◌, ◌||◌, nat_le, nat_lt, nat_eq, max}
use Rattle.std.specs.Prelude.{List, [], ◌∷◌, length, drop, slice_index_or, if◌then◌else◌}
use Rattle.std.specs.Int.{bit_at}
use Rattle.std.specs.Int.RustNames.{bit_or, bit_xor, bit_and}
use Rattle.imap_names.specs.declared.letters.Letter.{Letter}
use Rattle.imap_names.specs.declared.places.Masks.{Masks}
use Rattle.imap_names.specs.declared.token.Token.{Token}
use Rattle.imap_names.specs.declared.token.Token.TheVariants.{Any, AnyInLevel, Octet}
use Rattle.imap_names.specs.Letters.{blank}
use Rattle.imap_names.specs.MatchTest.{letters_match}
use Rattle.imap_names.specs.Pattern.{is_letter, ends_level}

abbrev pub word_letters : ℕ
word_letters = 62

abbrev pub max_letters : ℕ
max_letters = 371

abbrev pub bit_of : Bool → ℕ
bit_of b = if b then 1 else 0

-- the last n letters, and the first of them
abbrev pub last_letters : ℕ → List Letter → List Letter
last_letters n letters = drop (length letters - n) letters

abbrev pub letter_left : ℕ → List Letter → Letter
letter_left n letters = slice_index_or letters (length letters - n) blank

-- the bits of a word whose first place is before the last `base` letters say from where the pattern matches
abbrev pub AreReached : List Token → List Letter → ℕ → ℕ → Type 0
AreReached pattern letters base places =
    (n : ℕ) → n ≤ word_letters → base + n ≤ length letters → bit_at places n ≡ bit_of (letters_match pattern (last_letters (base + n) letters))

-- the octet stands for the letter at a place, which is one of the first `count` of the word
abbrev pub is_mark : ℕ → ℕ → ℕ → List Letter → ℕ → Bool
is_mark octet base count letters n = nat_lt 0 n && (nat_le n count && is_letter octet (letter_left (base + n) letters))

abbrev pub AreMarks : List Letter → ℕ → ℕ → List ℕ → Type 0
AreMarks letters base count octets =
    (octet n : ℕ) → octet < 256 → bit_at (slice_index_or octets octet 0) n ≡ bit_of (is_mark octet base count letters n)

-- the letter before a place ends no level, and is one of the first `count` of the word
abbrev pub is_inner : ℕ → ℕ → List Letter → ℕ → Bool
is_inner base count letters n = nat_lt 0 n && (nat_le n count && not (ends_level (letter_left (base + n) letters)))

abbrev pub IsInner : List Letter → ℕ → ℕ → ℕ → Type 0
IsInner letters base count inner = (n : ℕ) → bit_at inner n ≡ bit_of (is_inner base count letters n)

-- the masks say of all letters of the word what they are
pub record AreMasks (letters : List Letter) (base : ℕ) (masks : Masks) : Type 0 where
  pub octets : (octet n : ℕ) → octet < 256 → 0 < n → n ≤ word_letters → base + n ≤ length letters → bit_at (slice_index_or masks.octets octet 0) n ≡ bit_of (is_letter octet (letter_left (base + n) letters))
  pub inner : (n : ℕ) → 0 < n → n ≤ word_letters → base + n ≤ length letters → bit_at masks.inner n ≡ bit_of (not (ends_level (letter_left (base + n) letters)))

abbrev pub no_masks : Masks
no_masks = record { octets = []; inner = 0 }

abbrev pub AreAllMasks : List Letter → List Masks → Type 0
AreAllMasks letters masks = (word : ℕ) → word < 6 → AreMasks letters (word_letters * word) (slice_index_or masks word no_masks)

abbrev pub AreAllReached : List Token → List Letter → List ℕ → Type 0
AreAllReached pattern letters words = (word : ℕ) → word < 6 → AreReached pattern letters (word_letters * word) (slice_index_or words word 0)

-- whatever the rest of a pattern is: where `old` says from where it matches, `new` says it of the token and the rest
abbrev pub Steps : Token → List Letter → List ℕ → List ℕ → Type 0
Steps token letters old new = (rest : List Token) → AreAllReached rest letters old → AreAllReached (token ∷ rest) letters new

-- a mark is added at the n-th place
abbrev pub AddsMark : List ℕ → ℕ → ℕ → List ℕ → Type 0
AddsMark old octet n new =
    (other m : ℕ) → other < 256 → bit_at (slice_index_or new other 0) m ≡ max (bit_at (slice_index_or old other 0) m) (bit_of (nat_eq m n && nat_eq other octet))

abbrev pub AddsLetter : List ℕ → Letter → ℕ → List ℕ → Type 0
AddsLetter old letter n new =
    (octet m : ℕ) → octet < 256 → bit_at (slice_index_or new octet 0) m ≡ max (bit_at (slice_index_or old octet 0) m) (bit_of (nat_eq m n && is_letter octet letter))

-- the places, and those that lead to them by places that are let through: the carries of a sum
abbrev pub flood : ℕ → ℕ → ℕ
flood places through =
    bit_xor (bit_xor places (bit_or places through)) ((places + bit_or places through) % 2 ^ 64) / 2 ^ 1

abbrev pub step_of : Token → ℕ → ℕ → Masks → ℕ
step_of Any places carry masks = flood (bit_or places carry) (2 ^ 64 - 1)
step_of AnyInLevel places carry masks = flood (bit_or places carry) masks.inner
step_of (Octet octet) places carry masks = bit_or (bit_and (places * 2 ^ 1 % 2 ^ 64) (slice_index_or masks.octets octet 0)) carry

abbrev pub IsOfOctets : Token → Type 0
IsOfOctets Any = Unit {0}
IsOfOctets AnyInLevel = Unit {0}
IsOfOctets (Octet octet) = octet < 256
