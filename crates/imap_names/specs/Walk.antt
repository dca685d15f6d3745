-- What the steps of a match find.
use Rattle.std.specs.Prelude.{◌≡◌, ℕ, ◌+◌, ◌<◌, ◌≤◌, Bool, true, false, List, [], ◌∷◌, length, take, drop}
use Rattle.std.specs.Prelude.{slice_index_or}
use Rattle.imap_names.specs.declared.letters.Letter.{Letter}
use Rattle.imap_names.specs.declared.token.Token.{Token}
use Rattle.imap_names.specs.declared.token.Token.TheVariants.{Any, AnyInLevel, Octet}
use Rattle.imap_names.specs.declared.wildcards.Stop.{Stop}
use Rattle.imap_names.specs.declared.wildcards.Stop.TheVariants.{Ended, Differs, AtAnyInLevel, AtAny}
use Rattle.imap_names.specs.declared.wildcards.Segment.{Segment}
use Rattle.imap_names.specs.declared.wildcards.Segment.TheVariants.{Matched, Failed, Reached}
use Rattle.imap_names.specs.Letters.{blank}
use Rattle.imap_names.specs.Pattern.{is_letter, Matches}

-- the token is no wildcard and stands for the letter
abbrev pub spells : Token → Letter → Bool
spells Any letter = false
spells AnyInLevel letter = false
spells (Octet octet) letter = is_letter octet letter

-- each token stands for the letter at its place
abbrev pub AreSpelled : List Token → List Letter → Type 0
AreSpelled [] [] = Unit {0}
AreSpelled [] (letter ∷ letters) = ⊥
AreSpelled (token ∷ tokens) [] = ⊥
AreSpelled (token ∷ tokens) (letter ∷ letters) = (spells token letter ≡ true) × AreSpelled tokens letters

-- if both have an n-th item, that token doesn't stand for that letter
abbrev pub Parts : List Token → List Letter → ℕ → Type 0
Parts pattern text n =
    n < length pattern → n < length text
    → spells (slice_index_or pattern n Any) (slice_index_or text n blank) ≡ false

-- n tokens spell the first n letters, and this wildcard is next
pub record Runs (wildcard : Token) (pattern : List Token) (text : List Letter) (n : ℕ) : Type 0 where
  pub in_pattern : n < length pattern
  pub in_text : n ≤ length text
  pub same : AreSpelled (take n pattern) (take n text)
  pub here : drop n pattern ≡ wildcard ∷ drop (n + 1) pattern

abbrev pub Stops : List Token → List Letter → Stop → Type 0
Stops pattern text Ended = Matches pattern text
Stops pattern text Differs = ¬ (Matches pattern text)
Stops pattern text (AtAnyInLevel n) = Runs AnyInLevel pattern text n
Stops pattern text (AtAny n) = Runs Any pattern text n

-- a `*` is reached at the earliest letter: wherever the pattern matches, its rest matches from this letter on
pub record Reaches (pattern : List Token) (text : List Letter) (token letter : ℕ) : Type 0 where
  pub in_pattern : token < length pattern
  pub in_text : letter ≤ length text
  pub here : drop token pattern ≡ Any ∷ drop (token + 1) pattern
  pub suffices : Matches (drop token pattern) (drop letter text) → Matches pattern text
  pub earliest : (k : ℕ) → Matches pattern (drop k text) → Matches (drop token pattern) (drop letter text)

-- the pattern matches from none of the first letters
pub record Fails (pattern : List Token) (text : List Letter) (letters : ℕ) : Type 0 where
  pub some : 0 < letters
  pub none : (k : ℕ) → k < letters → ¬ (Matches pattern (drop k text))

abbrev pub Segments : List Token → List Letter → Segment → Type 0
Segments pattern text Matched = Matches pattern text
Segments pattern text (Failed letters) = Fails pattern text letters
Segments pattern text (Reached token letter) = Reaches pattern text token letter
