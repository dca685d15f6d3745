-- Words with something between them.
use Rattle.std.specs.Prelude.{◌≡◌, ℕ, Bool, true, false, ◌||◌, List, [], ◌∷◌, ◌++◌}
use Rattle.std.specs.Prelude.{flat_map, Option, Some, None}

-- an octet before each word
abbrev pub before_each : ℕ → List (List ℕ) → List ℕ
before_each octet words = flat_map (λ word. octet ∷ word) words

-- the words, with an octet between each two of them
abbrev pub joined : ℕ → List (List ℕ) → List ℕ
joined octet [] = []
joined octet (word ∷ words) = word ++ before_each octet words

-- words that go on after others, or begin
abbrev pub further : (begun : Bool) → ℕ → List (List ℕ) → List ℕ
further false octet words = joined octet words
further true octet words = before_each octet words

-- a list in parentheses, with spaces between
abbrev pub in_parentheses : List (List ℕ) → List ℕ
in_parentheses words = 40 ∷ joined 32 words ++ 41 ∷ []

-- a word that may be left away
abbrev pub given : Bool → List ℕ → List (List ℕ)
given true word = word ∷ []
given false word = []

abbrev pub given_by : {A : Type 0} → (A → List ℕ) → Option A → List (List ℕ)
given_by text (Some value) = text value ∷ []
given_by text None = []

-- the separator before a word
abbrev pub space : (begun : Bool) → List ℕ
space true = 32 ∷ []
space false = []

abbrev pub are_there : List (List ℕ) → Bool
are_there [] = false
are_there (word ∷ words) = true

-- `new` is `old` and then the words of a list. `begun` says whether the list has words in `old`, and `now`
-- whether it has words in `new`
pub record GoesOn (old : List ℕ) (begun : Bool) (words : List (List ℕ)) (new : List ℕ) (now : Bool)
    : Type 0 where
  pub printed : new ≡ old ++ further begun 32 words
  pub any : now ≡ (begun || are_there words)
