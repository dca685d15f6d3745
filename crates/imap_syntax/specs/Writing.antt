-- How values are written: one text for each value that can be spelt.
use Rattle.std.specs.Prelude.{ℕ, Bool, true, not, ◌==◌, ◌&&◌, nat_lt, List, [], ◌∷◌}
use Rattle.std.specs.Prelude.{◌++◌, length, decimal, flat_map}
use Rattle.std.specs.List.{list_all}

-- `fits value`: some text spells the value.
-- `text value`: the spelling that is written, if there is one.
pub record Writing (A : Type 0) : Type 0 where
  pub fits : A → Bool
  pub text : A → List ℕ

-- a word of a table
abbrev pub word : {W : Type 0} → (W → List ℕ) → Writing W
word name = record { fits = λ w. true; text = name }

-- one octet or more, each of which passes the test
abbrev pub some_of : (ℕ → Bool) → Writing (List ℕ)
some_of test = record { fits = λ text. not (length text == 0) && list_all test text; text = λ text. text }

abbrev pub number : (low high : ℕ) → Writing ℕ
number low high = record { fits = λ n. not (nat_lt n low) && not (nat_lt high n); text = decimal }

-- the texts of the items, with an octet before each of them
abbrev pub further : {A : Type 0} → ℕ → (A → List ℕ) → List A → List ℕ
further b text items = flat_map (λ item. b ∷ text item) items

-- the texts of the items, with an octet between each two of them
abbrev pub joined : {A : Type 0} → ℕ → (A → List ℕ) → List A → List ℕ
joined b text [] = []
joined b text (item ∷ items) = text item ++ further b text items

-- one item or more
abbrev pub separated : {A : Type 0} → ℕ → Writing A → Writing (List A)
separated b w = record {
  fits = λ items. not (length items == 0) && list_all w.fits items;
  text = joined b w.text;
}

abbrev pub in_parentheses : List ℕ → List ℕ
in_parentheses text = 40 ∷ text ++ 41 ∷ []

abbrev pub listed : {A : Type 0} → Writing A → Writing (List A)
listed w = record { fits = (separated 32 w).fits; text = λ items. in_parentheses (joined 32 w.text items) }

abbrev pub listed_or_none : {A : Type 0} → Writing A → Writing (List A)
listed_or_none w = record { fits = list_all w.fits; text = λ items. in_parentheses (joined 32 w.text items) }
