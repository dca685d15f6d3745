-- Rules of a grammar: the octets that spell a value, and the value that is read from octets.
use Rattle.std.specs.Prelude.{◌≡◌, ◌≢◌, ℕ, zero, suc, Bool, true, false, cond, ◌==◌, ◌⊎◌, nat_lt, List, []}
use Rattle.std.specs.Prelude.{◌∷◌, ◌++◌, length, take, drop, find, Option, Some, None, option_map}
use Rattle.std.specs.List.{AllByRecursion, prefix_len}
use Rattle.std.specs.Option.{option_and_then, option_or}
use Rattle.std.specs.Str.{str_eq_ignore_ascii_case}

-- `spells value text`: the text, from its first octet to its last, is a spelling of the value.
-- `read input`: the value whose spelling stands at the front of the input, and the octets after it.
pub record Rule (A : Type 0) : Type 1 where
  pub spells : A → List ℕ → Type 0
  pub read : List ℕ → Option (A × List ℕ)

-- no octets, for this value
abbrev pub give : {A : Type 0} → A → Rule A
give value = record {
  spells = λ a text. (a ≡ value) × (text ≡ []);
  read = λ input. Some (value, input);
}

-- no text at all
abbrev pub fail : {A : Type 0} → Rule A
fail = record {
  spells = λ a text. ⊥;
  read = λ input. None;
}

-- no octets, for this value, if the test passes
abbrev pub when : {A : Type 0} → Bool → A → Rule A
when test value = record {
  spells = λ a text. (test ≡ true) × (a ≡ value) × (text ≡ []);
  read = λ input. cond test (Some (value, input)) None;
}

-- a text of the first rule, and after it one of the rule that its value chooses
infixl 10 ◌>>=◌
abbrev pub ◌>>=◌ : {A B : Type 0} → Rule A → (A → Rule B) → Rule B
p >>= next = record {
  spells = λ b text.
      (a : _) × (front : List ℕ) × (back : List ℕ) ×
      p.spells a front × (next a).spells b back × (text ≡ front ++ back);
  read = λ input. option_and_then (λ found. (next found.0).read found.1) (p.read input);
}

infixl 10 ◌>>◌
abbrev pub ◌>>◌ : {A B : Type 0} → Rule A → Rule B → Rule B
p >> q = p >>= λ _. q

-- a text of either rule
infixl 8 ◌<|>◌
abbrev pub ◌<|>◌ : {A : Type 0} → Rule A → Rule A → Rule A
p <|> q = record {
  spells = λ a text. p.spells a text ⊎ q.spells a text;
  read = λ input. option_or (p.read input) (q.read input);
}

-- ---- octets

abbrev pub first_read : List ℕ → Option (ℕ × List ℕ)
first_read [] = None
first_read (b ∷ rest) = Some (b, rest)

abbrev pub octet_read : ℕ → List ℕ → Option (Unit {0} × List ℕ)
octet_read b [] = None
octet_read b (x ∷ rest) = cond (x == b) (Some (tt, rest)) None

-- this one octet
abbrev pub octet : ℕ → Rule (Unit {0})
octet b = record {
  spells = λ _ text. text ≡ b ∷ [];
  read = octet_read b;
}

-- this octet, or nothing
abbrev pub IsFlag : ℕ → Bool → List ℕ → Type 0
IsFlag b true text = text ≡ b ∷ []
IsFlag b false text = text ≡ []

abbrev pub flag_read : ℕ → List ℕ → Option (Bool × List ℕ)
flag_read b [] = Some (false, [])
flag_read b (x ∷ rest) = cond (x == b) (Some (true, rest)) (Some (false, x ∷ rest))

abbrev pub flag : ℕ → Rule Bool
flag b = record {
  spells = IsFlag b;
  read = flag_read b;
}

-- any n octets
abbrev pub counted : ℕ → Rule (List ℕ)
counted n = record {
  spells = λ a text. (text ≡ a) × (length a ≡ n);
  read = λ input. cond (nat_lt (length input) n) None (Some (take n input, drop n input));
}

-- the first n octets, if n is not 0
abbrev pub front_read : ℕ → List ℕ → Option (List ℕ × List ℕ)
front_read n input = cond (n == 0) None (Some (take n input, drop n input))

-- the longest front of octets that pass the test
abbrev pub some_read : (ℕ → Bool) → List ℕ → Option (List ℕ × List ℕ)
some_read test input = front_read (prefix_len test input) input

-- each octet passes the test
abbrev pub ConsistsOf : (ℕ → Bool) → List ℕ → Type 0
ConsistsOf test text = AllByRecursion (λ b. test b ≡ true) text

-- one octet or more, each of which passes the test
abbrev pub some_of : (ℕ → Bool) → Rule (List ℕ)
some_of test = record {
  spells = λ a text. (text ≡ a) × ConsistsOf test text × (text ≢ []);
  read = some_read test;
}

-- ---- words

abbrev pub word_read : {V : Type 0} → (V → List ℕ) → List V → List ℕ × List ℕ → Option (V × List ℕ)
word_read name all found =
    option_and_then (λ v. Some (v, found.1)) (find (λ v. str_eq_ignore_ascii_case found.0 (name v)) all)

-- a word of a table, in any ASCII case. The octets of the words pass the test.
abbrev pub keyword : {V : Type 0} → (ℕ → Bool) → (V → List ℕ) → List V → Rule V
keyword test name all = record {
  spells = λ v text. str_eq_ignore_ascii_case text (name v) ≡ true;
  read = λ input. option_and_then (word_read name all) (some_read test input);
}

-- ---- lists

-- one item or more, with the octet b between
abbrev pub IsSeparated : {A : Type 0} → ℕ → (A → List ℕ → Type 0) → List A → List ℕ → Type 0
IsSeparated b spells [] text = ⊥
IsSeparated b spells (a ∷ []) text = spells a text
IsSeparated b spells (a ∷ c ∷ others) text =
    (front : List ℕ) × (back : List ℕ) ×
    spells a front × IsSeparated b spells (c ∷ others) back × (text ≡ front ++ (b ∷ back))

abbrev pub with_front : {A : Type 0} → List A → Option (List A × List ℕ) → Option (List A × List ℕ)
with_front front read = option_map (λ found. (front ++ found.0, found.1)) read

-- after the item a: the others, if there are any
abbrev pub others_read : {A : Type 0} → ℕ → A → (List ℕ → Option (List A × List ℕ)) → List ℕ
    → Option (List A × List ℕ)
others_read b a read rest =
    option_and_then
    (λ found. cond found.0 (with_front (a ∷ []) (read found.1)) (Some (a ∷ [], found.1)))
    (flag_read b rest)

-- n items at most
abbrev pub separated_read : {A : Type 0} → ℕ → (List ℕ → Option (A × List ℕ)) → ℕ → List ℕ
    → Option (List A × List ℕ)
separated_read b read zero input = None
separated_read b read (suc n) input =
    option_and_then (λ found. others_read b found.0 (separated_read b read n) found.1) (read input)

unfoldable pub items_read : {A : Type 0} → ℕ → (List ℕ → Option (A × List ℕ)) → List ℕ
    → Option (List A × List ℕ)
items_read b read input = separated_read b read (suc (length input)) input

abbrev pub separated : {A : Type 0} → ℕ → Rule A → Rule (List A)
separated b p = record {
  spells = IsSeparated b p.spells;
  read = items_read b p.read;
}

-- (, items with spaces between, )
abbrev pub listed : {A : Type 0} → Rule A → Rule (List A)
listed p = do
  octet 40
  items ← separated 32 p
  octet 41
  give items

abbrev pub listed_behind : {A : Type 0} → Rule A → Bool → Rule (List A)
listed_behind p true = give []
listed_behind p false = do
  items ← separated 32 p
  octet 41
  give items

abbrev pub listed_end : {A : Type 0} → Rule A → Rule (List A)
listed_end p = do
  none ← flag 41
  listed_behind p none

-- as `listed`, or () for none
abbrev pub listed_or_none : {A : Type 0} → Rule A → Rule (List A)
listed_or_none p = do
  octet 40
  listed_end p

-- a rule of which only the reading is known, for contracts of generic code
abbrev pub reading : {A : Type 0} → (List ℕ → Option (A × List ℕ)) → Rule A
reading read = record { spells = λ a text. ⊥; read = read }

-- no octets, for this value, if there is one
abbrev pub judged : {A : Type 0} → Option A → Rule A
judged None = fail
judged (Some value) = give value
