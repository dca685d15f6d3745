-- The laws of words in a table.
use Rattle.std.proofs.Common.{◌≡◌, ◌≢◌, ℕ, Bool, true, false, cond, List, [], ◌∷◌, ◌++◌, Some, refl, ap, ◌∙◌}
use Rattle.std.specs.Prelude.{find}
use Rattle.std.specs.Char.{to_ascii_lowercase}
use Rattle.std.specs.Str.{str_eq_ignore_ascii_case, str_to_ascii_lowercase, bytes_eq}
use Rattle.std.proofs.lemmas.Option.{some_pair_parts, same_Some}
use Rattle.std.proofs.lemmas.Slice.Eq.{bytes_eq-Decides}
use Rattle.imap_syntax.specs.First.{begins}
use Rattle.imap_syntax.proofs.Opens.{Opens}
use Rattle.imap_syntax.specs.Rule.{keyword, word_read, some_read, ConsistsOf}
use Rattle.imap_syntax.proofs.RuleLaws.{StopsAt, Lawful, and_then_some, some_of_lawful, some_read-whole}

pub same_bytes : (xs ys : List ℕ) → bytes_eq xs ys ≡ true → xs ≡ ys
same_bytes xs ys h = (bytes_eq-Decides xs ys).0 h

found_passes_by : {V : Type 0} (test : V → Bool) (x : V) (xs : List V) (v : V) (t : Bool) → test x ≡ t → (find test xs ≡ Some v → test v ≡ true) → cond t (Some x) (find test xs) ≡ Some v → test v ≡ true
found_passes_by test x xs v true k h e = let same : x ≡ v = same_Some _ _ e in rw (← same) k
found_passes_by test x xs v false k h e = h e

found_passes : {V : Type 0} (test : V → Bool) (all : List V) (v : V) → find test all ≡ Some v → test v ≡ true
found_passes test [] v e = absurd cc
found_passes test (x ∷ xs) v e = found_passes_by test x xs v (test x) refl (found_passes test xs v) e

-- a table of words made of octets that pass the test, no two of which differ only in case
pub record IsTable {V : Type 0} (test : ℕ → Bool) (name : V → List ℕ) (all : List V) : Type 0 where
  pub finds : (v : V) → find (λ u. str_eq_ignore_ascii_case (name v) (name u)) all ≡ Some v
  pub passes : (v : V) → ConsistsOf test (name v)
  pub filled : (v : V) → name v ≢ []
  pub caseless : (a b : ℕ) → to_ascii_lowercase a ≡ to_ascii_lowercase b → test b ≡ true → test a ≡ true

pub passes_alike : (test : ℕ → Bool) → ((a b : ℕ) → to_ascii_lowercase a ≡ to_ascii_lowercase b → test b ≡ true → test a ≡ true) → (text word : List ℕ) → str_to_ascii_lowercase text ≡ str_to_ascii_lowercase word → ConsistsOf test word → ConsistsOf test text
passes_alike test caseless [] word e h = tt
passes_alike test caseless (a ∷ text) [] e h = absurd cc
passes_alike test caseless (a ∷ text) (b ∷ word) e h = (caseless a b (cc) h.0, passes_alike test caseless text word (cc) h.1)

pub filled_alike : (text word : List ℕ) → str_to_ascii_lowercase text ≡ str_to_ascii_lowercase word → word ≢ [] → text ≢ []
filled_alike text [] e filled = absurd (filled refl)
filled_alike [] (b ∷ word) e filled = absurd cc
filled_alike (a ∷ text) (b ∷ word) e filled = λ empty. absurd cc

-- a text that spells a word is made of octets that pass
pub spelt_passes : {V : Type 0} {test : ℕ → Bool} {name : V → List ℕ} {all : List V} → IsTable test name all → (v : V) (text : List ℕ) → str_eq_ignore_ascii_case text (name v) ≡ true → ConsistsOf test text × (text ≢ [])
spelt_passes {test = test} {name = name} table v text h =
    let same : str_to_ascii_lowercase text ≡ str_to_ascii_lowercase (name v) = same_bytes _ _ h in
    (passes_alike test table.caseless text (name v) same (table.passes v), filled_alike text (name v) same (table.filled v))

pub keyword_lawful : {V : Type 0} {test : ℕ → Bool} {name : V → List ℕ} {all : List V} → IsTable test name all → Lawful (StopsAt test) (keyword test name all)
keyword_lawful {V = V} {test = test} {name = name} {all = all} table = record {
  sound = λ input v rest e.
      let x = and_then_some (word_read name all) (some_read test input) (v, rest) e in
      let y = and_then_some (λ (u : V). Some (u, x.0.1)) (find (λ u. str_eq_ignore_ascii_case x.0.0 (name u)) all) (v, rest) x.2 in
      let parts = some_pair_parts y.0 v x.0.1 rest y.2 in
      let r = (some_of_lawful test).sound input x.0.0 x.0.1 x.1 in
      (x.0.0, found_passes (λ u. str_eq_ignore_ascii_case x.0.0 (name u)) all v (y.1 ∙ ap Some parts.0), r.2 ∙ ap (λ (t : List ℕ). t ++ x.0.1) r.1.0 ∙ ap (λ (t : List ℕ). x.0.0 ++ t) parts.1);
  complete = λ v text rest h n.
      let same : str_to_ascii_lowercase text ≡ str_to_ascii_lowercase (name v) = same_bytes _ _ h in
      let spelt = spelt_passes table v text h in
      let whole : some_read test (text ++ rest) ≡ Some (text, rest) = some_read-whole test text rest spelt.0 spelt.1 n in
      let found : find (λ u. str_eq_ignore_ascii_case text (name u)) all ≡ Some v = ap (λ (t : List ℕ). find (λ u. bytes_eq t (str_to_ascii_lowercase (name u))) all) same ∙ table.finds v in
      rw (whole, found) refl;
}

begins_alike : (test : ℕ → Bool) → ((a b : ℕ) → to_ascii_lowercase a ≡ to_ascii_lowercase b → test b ≡ true → test a ≡ true) → (text word : List ℕ) → str_to_ascii_lowercase text ≡ str_to_ascii_lowercase word → begins test word ≡ true → (b : ℕ) × (back : List ℕ) × (text ≡ b ∷ back) × (test b ≡ true)
begins_alike test caseless text [] e h = absurd cc
begins_alike test caseless [] (b ∷ word) e h = absurd cc
begins_alike test caseless (a ∷ text) (b ∷ word) e h = (a, text, refl, caseless a b (cc) h)

-- what the words of a table begin with
pub keyword_begins : {V : Type 0} (test : ℕ → Bool) (name : V → List ℕ) (all : List V) (start : ℕ → Bool) → ((v : V) → begins start (name v) ≡ true) → ((a b : ℕ) → to_ascii_lowercase a ≡ to_ascii_lowercase b → start b ≡ true → start a ≡ true) → Opens start (keyword test name all)
keyword_begins test name all start passes caseless = record { first = λ v text h. begins_alike start caseless text (name v) (same_bytes _ _ h) (passes v) }
