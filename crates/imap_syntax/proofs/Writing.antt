-- What is written is spelt so, and what is spelt can be written. Each combinator hands this on.
use Rattle.std.proofs.Common.{rules, ◌≡◌, ℕ, ◌<◌, ◌^◌, Bool, true, false, not, ◌&&◌, eqb, List, [], ◌∷◌, ◌++◌, length, refl, sym, ap, subst, arith}
use Rattle.std.specs.Fmt.{decimal as decimal_text}
use Rattle.std.specs.List.{list_all}
use Rattle.std.specs.Char.{is_ascii_digit}
use Rattle.std.specs.Str.{all_ascii_digits, str_to_ascii_lowercase}
use Rattle.std.proofs.lemmas.Bool.Decides.{nat_tests}
use Rattle.std.proofs.lemmas.List.{append-nil}
use Rattle.imap_syntax.specs.Rule as rule
use Rattle.imap_syntax.specs.Rule.{Rule, give, ◌>>=◌, ConsistsOf, IsSeparated}
use Rattle.std.proofs.lemmas.Fmt.{digits_decimal, digits_value-decimal, decimal_nonempty}
use Rattle.std.proofs.lemmas.Slice.Eq.{bytes_eq-Decides}
use Rattle.std.proofs.lemmas.Str.Parse.{IsNumeralModel, numerals_by_fold}
use Rattle.imap_syntax.specs.Lexical as lexical
use Rattle.imap_syntax.specs.Lexical.{decimal, decimal_from}
use Rattle.imap_syntax.specs.Writing.{Writing, joined, word, some_of, number, separated, listed, listed_or_none}

pub record Writes {A : Type 0} (p : Rule A) (w : Writing A) : Type 0 where
  pub made : (a : A) → w.fits a ≡ true → p.spells a (w.text a)
  pub fits : (a : A) (text : List ℕ) → p.spells a text → w.fits a ≡ true

-- ---- tests

pub both_true : (a b : Bool) → (a && b) ≡ true → (a ≡ true) × (b ≡ true)
both_true true b h = (refl, h)
both_true false b h = absurd cc

pub both : (a b : Bool) → a ≡ true → b ≡ true → (a && b) ≡ true
both a b h k = rw (h, k) refl

pub consists : (test : ℕ → Bool) (text : List ℕ) → list_all test text ≡ true → ConsistsOf test text
consists test [] h = tt
consists test (b ∷ text) h = let p = both_true (test b) (list_all test text) h in (p.0, consists test text p.1)

pub consists_all : (test : ℕ → Bool) (text : List ℕ) → ConsistsOf test text → list_all test text ≡ true
consists_all test [] h = refl
consists_all test (b ∷ text) h = rw (h.0, consists_all test text h.1) refl

-- ---- one octet or more

filled_by : (text : List ℕ) → not (eqb (length text) 0) ≡ true → text ≡ [] → ⊥
filled_by [] h e = cc
filled_by (b ∷ text) h e = cc

pub some_of_writes : (test : ℕ → Bool) → Writes (rule.some_of test) (some_of test)
some_of_writes test = record {
  made = λ text h. let p = both_true _ _ h in (refl, consists test text p.1, filled_by text p.0);
  fits = λ value text h. some_fits value text h;
}
  where
    some_fits : (value text : List ℕ) → (rule.some_of test).spells value text → (some_of test).fits value ≡ true
    some_fits [] text h = absurd (h.2 h.0)
    some_fits (b ∷ value) text h =
        let filled : eqb (length (b ∷ value)) 0 ≡ false = grind (arith, nat_tests) in
        rw (filled, consists_all test (b ∷ value) (subst (ConsistsOf test) h.0 h.1)) refl

-- ---- lists

joined_made : {A : Type 0} (b : ℕ) (p : Rule A) (w : Writing A) → Writes p w → (item : A) (items : List A) → w.fits item ≡ true → list_all w.fits items ≡ true → IsSeparated b p.spells (item ∷ items) (joined b w.text (item ∷ items))
joined_made b p w law item [] h hs = subst (p.spells item) (sym (append-nil (w.text item))) (law.made item h)
joined_made b p w law item (next ∷ items) h hs =
    let q = both_true _ _ hs in
    (w.text item, joined b w.text (next ∷ items), law.made item h, joined_made b p w law next items q.0 q.1, refl)

joined_fits : {A : Type 0} (b : ℕ) (p : Rule A) (w : Writing A) → Writes p w → (items : List A) (text : List ℕ) → IsSeparated b p.spells items text → (separated b w).fits items ≡ true
joined_fits b p w law [] text h = absurd h
joined_fits b p w law (item ∷ []) text h = rw (law.fits item text h) (grind (arith, nat_tests))
joined_fits b p w law (item ∷ next ∷ items) text h =
    let filled : eqb (length (item ∷ next ∷ items)) 0 ≡ false = grind (arith, nat_tests) in
    let others : list_all w.fits (next ∷ items) ≡ true = (both_true _ _ (joined_fits b p w law (next ∷ items) h.1 h.3)).1 in
    rw (filled, law.fits item h.0 h.2, others) refl

separated_made : {A : Type 0} (b : ℕ) (p : Rule A) (w : Writing A) → Writes p w → (items : List A) → (separated b w).fits items ≡ true → IsSeparated b p.spells items (joined b w.text items)
separated_made b p w law [] h = cc
separated_made b p w law (item ∷ items) h = let q = both_true _ _ (both_true _ _ h).1 in joined_made b p w law item items q.0 q.1

pub separated_writes : {A : Type 0} (b : ℕ) (p : Rule A) (w : Writing A) → Writes p w → Writes (rule.separated b p) (separated b w)
separated_writes b p w law = record { made = separated_made b p w law; fits = joined_fits b p w law }

closed : {A : Type 0} (items : A) → (rule.octet 41 >>= λ u. give items).spells items (41 ∷ [])
closed items = (tt, 41 ∷ [], [], refl, (refl, refl), refl)

listed_made : {A : Type 0} (p : Rule A) (w : Writing A) → Writes p w → (items : List A) → (separated 32 w).fits items ≡ true → (rule.listed p).spells items ((listed w).text items)
listed_made p w law items h =
    let text = joined 32 w.text items in
    (tt, 40 ∷ [], text ++ 41 ∷ [], refl, (items, text, 41 ∷ [], separated_made 32 p w law items h, closed items, refl), refl)

pub listed_writes : {A : Type 0} (p : Rule A) (w : Writing A) → Writes p w → Writes (rule.listed p) (listed w)
listed_writes p w law = record {
  made = listed_made p w law;
  fits = λ items text h. let inner = h.4 in rw (inner.4.4.0) (joined_fits 32 p w law inner.0 inner.1 inner.3);
}

abbrev pub end_text : {A : Type 0} → Writing A → List A → List ℕ
end_text w items = joined 32 w.text items ++ 41 ∷ []

pub listed_end_made : {A : Type 0} (p : Rule A) (w : Writing A) → Writes p w → (items : List A) → list_all w.fits items ≡ true → (rule.listed_end p).spells items (end_text w items)
listed_end_made p w law [] h = (true, 41 ∷ [], [], refl, (refl, refl), refl)
listed_end_made p w law (item ∷ items) h =
    let text = joined 32 w.text (item ∷ items) in
    let q = both_true _ _ h in
    let inner : (rule.listed_behind p false).spells (item ∷ items) (text ++ 41 ∷ []) = (item ∷ items, text, 41 ∷ [], joined_made 32 p w law item items q.0 q.1, closed (item ∷ items), refl) in
    (false, [], text ++ 41 ∷ [], refl, inner, refl)

all_fit : {A : Type 0} (w : Writing A) (items : List A) → (separated 32 w).fits items ≡ true → list_all w.fits items ≡ true
all_fit w items h = (both_true _ _ h).1

behind_fits : {A : Type 0} (p : Rule A) (w : Writing A) → Writes p w → (none : Bool) (items : List A) (text : List ℕ) → (rule.listed_behind p none).spells items text → list_all w.fits items ≡ true
behind_fits p w law true items text h = rw h.0 refl
behind_fits p w law false items text h = rw (h.4.4.0) (all_fit w h.0 (joined_fits 32 p w law h.0 h.1 h.3))

pub listed_end_fits : {A : Type 0} (p : Rule A) (w : Writing A) → Writes p w → (items : List A) (text : List ℕ) → (rule.listed_end p).spells items text → list_all w.fits items ≡ true
listed_end_fits p w law items text h = behind_fits p w law h.0 items h.2 h.4

pub listed_or_none_writes : {A : Type 0} (p : Rule A) (w : Writing A) → Writes p w → Writes (rule.listed_or_none p) (listed_or_none w)
listed_or_none_writes p w law = record {
  made = λ items h. (tt, 40 ∷ [], end_text w items, refl, listed_end_made p w law items h, refl);
  fits = λ items text h. listed_end_fits p w law items h.2 h.4;
}

-- ---- words

pub word_writes : {W : Type 0} (test : ℕ → Bool) (name : W → List ℕ) (all : List W) → Writes (rule.keyword test name all) (word name)
word_writes test name all = record { made = λ w h. (bytes_eq-Decides (str_to_ascii_lowercase (name w)) (str_to_ascii_lowercase (name w))).1 refl; fits = λ w text h. refl }

-- ---- numbers

pub numerals : IsNumeralModel (λ ds. all_ascii_digits ds ≡ true) (decimal_from 0)
numerals = numerals_by_fold _ (search rules) decimal_from (search rules)

pub digits_made : (n : ℕ) → n < 2 ^ 64 → (rule.some_of is_ascii_digit).spells (decimal_text n) (decimal_text n)
digits_made n lt = (refl, consists is_ascii_digit (decimal_text n) (digits_decimal numerals n lt), λ empty. absurd (omega (arith, decimal_nonempty n lt, ap length empty)))

pub number_value : (n : ℕ) → n < 2 ^ 64 → decimal (decimal_text n) ≡ n
number_value n lt = digits_value-decimal numerals n lt

pub number_made : (low high n : ℕ) → high < 2 ^ 64 → (number low high).fits n ≡ true → (lexical.number low high).spells n (decimal_text n)
number_made low high n bound h =
    let lt : n < 2 ^ 64 = grind (arith, nat_tests) in
    let value = number_value n lt in
    (decimal_text n, decimal_text n, [], digits_made n lt, (rw value h, sym value, refl), sym (append-nil (decimal_text n)))

pub number_writes : (low high : ℕ) → high < 2 ^ 64 → Writes (lexical.number low high) (number low high)
number_writes low high bound = record {
  made = λ n h. number_made low high n bound h;
  fits = λ n text h. rw (h.4.1) h.4.0;
}
