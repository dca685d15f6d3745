-- Keywords (RFC 9051, section 2.3.2).
use Rattle.std.specs.Prelude.{◌≡◌, ℕ, suc, not, List, [], ◌∷◌, filter, Option, Some, None, Result, Ok, Err}
use Rattle.std.specs.declared.vec.Vec.{Vec}
use Rattle.imap_syntax.specs.Atoms.{IsAtom}
use Rattle.std.specs.BTreeSet.{insert_key}
use Rattle.std.specs.Str.{str_to_ascii_lowercase, str_eq_ignore_ascii_case}
use Rattle.std.specs.Cmp.Lexicographic.{slice_cmp}
use Rattle.std.specs.Ordering.{nat_cmp}
use Rattle.std.specs.declared.cmp.Ordering.TheVariants.{Less}
use Rattle.std.specs.FinMap.Entries.{by_order}

-- with the word in lower case, at its place in the order of octets
abbrev pub with_word : List ℕ → List (List ℕ) → List (List ℕ)
with_word word words = insert_key (slice_cmp nat_cmp) words (str_to_ascii_lowercase word)

abbrev pub without_word : List ℕ → List (List ℕ) → List (List ℕ)
without_word word words = filter (λ w. not (str_eq_ignore_ascii_case w word)) words

-- with all words of a set, and without them
abbrev pub with_words : (others words : List (List ℕ)) → List (List ℕ)
with_words [] words = words
with_words (w ∷ others) words = with_words others (with_word w words)

-- ---- what the type of keywords keeps

-- the word comes before all of them
abbrev pub IsBefore : List ℕ → List (List ℕ) → Type 0
IsBefore word [] = Unit {0}
IsBefore word (w ∷ words) = (slice_cmp nat_cmp word w ≡ Less) × IsBefore word words

abbrev pub AreRising : List (List ℕ) → Type 0
AreRising [] = Unit {0}
AreRising (w ∷ words) = IsBefore w words × AreRising words

abbrev pub AreLower : List (List ℕ) → Type 0
AreLower [] = Unit {0}
AreLower (w ∷ words) = (str_to_ascii_lowercase w ≡ w) × AreLower words

abbrev pub AreAtoms : List (List ℕ) → Type 0
AreAtoms [] = Unit {0}
AreAtoms (w ∷ words) = IsAtom w × AreAtoms words

-- they rise, and each is an atom in lower case: so it has no space
pub record AreKeywords (words : List (List ℕ)) : Type 0 where
  pub rising : AreRising words
  pub lower : AreLower words
  pub atoms : AreAtoms words

-- the words behind a count of their owners; a set without words may have none
abbrev pub words_in : {Z : Type 0} → Option (Vec (List ℕ) Z) → List (List ℕ)
words_in None = []
words_in (Some shared) = shared.items

-- the place of a word, or the place for it
abbrev pub next_place : Result ℕ ℕ → Result ℕ ℕ
next_place (Ok i) = Ok (suc i)
next_place (Err i) = Err (suc i)

abbrev pub word_place : List ℕ → List (List ℕ) → Result ℕ ℕ
word_place word [] = Err 0
word_place word (w ∷ words) =
    by_order (slice_cmp nat_cmp word w) (Err 0) (Ok 0) (next_place (word_place word words))
