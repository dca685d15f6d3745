-- The tables of words are such as can be read.
use Rattle.std.proofs.Common.{◌≡◌, ◌≢◌, ℕ, Bool, true, false, cond, List, [], ◌∷◌, Some, refl, arith}
use Rattle.std.specs.Prelude.{find}
use Rattle.std.specs.Char.{to_ascii_lowercase, is_ascii_alphabetic}
use Rattle.std.specs.Str.{str_eq_ignore_ascii_case}
use Rattle.std.proofs.lemmas.Bool.Decides.{nat_tests}
use Rattle.imap_syntax.specs.Rule.{ConsistsOf}
use Rattle.imap_syntax.specs.Lexical.{is_astring_char, is_atom_char, is_word_char}
use Rattle.imap_syntax.proofs.Words.{IsTable}
use Rattle.imap_syntax.specs.Flags.{flag_name}
use Rattle.imap_syntax.specs.Calendar.{month_name}
use Rattle.imap_syntax.specs.declared.system_flag.SystemFlag.{SystemFlag}
use Rattle.imap_syntax.specs.declared.system_flag.SystemFlag.TheVariants as flag
use Rattle.imap_syntax.specs.declared.system_flag.TheConstants.{SYSTEM_FLAGS}
use Rattle.imap_syntax.specs.declared.month.TheConstants.{MONTHS}
use Rattle.imap_syntax.specs.declared.month.Month.{Month}
use Rattle.imap_syntax.specs.declared.month.Month.TheVariants as month_word

pub either_case_astring : (a b : ℕ) → to_ascii_lowercase a ≡ to_ascii_lowercase b → is_astring_char b ≡ true → is_astring_char a ≡ true
either_case_astring a b e h = grind (arith, nat_tests)

pub either_case_atom : (a b : ℕ) → to_ascii_lowercase a ≡ to_ascii_lowercase b → is_atom_char b ≡ true → is_atom_char a ≡ true
either_case_atom a b e h = grind (arith, nat_tests)

pub either_case_word : (a b : ℕ) → to_ascii_lowercase a ≡ to_ascii_lowercase b → is_word_char b ≡ true → is_word_char a ≡ true
either_case_word a b e h = grind (arith, nat_tests)

pub either_case_letter : (a b : ℕ) → to_ascii_lowercase a ≡ to_ascii_lowercase b → is_ascii_alphabetic b ≡ true → is_ascii_alphabetic a ≡ true
either_case_letter a b e h = grind (arith, nat_tests)

abbrev pub all_pass : (ℕ → Bool) → List ℕ → Bool
all_pass test [] = true
all_pass test (b ∷ text) = cond (test b) (all_pass test text) false

consists_by : (test : ℕ → Bool) (b : ℕ) (text : List ℕ) (v : Bool) → test b ≡ v → cond v (all_pass test text) false ≡ true → (all_pass test text ≡ true → ConsistsOf test text) → ConsistsOf test (b ∷ text)
consists_by test b text true e h f = (e, f h)
consists_by test b text false e h f = absurd cc

pub consists_from : (test : ℕ → Bool) (text : List ℕ) → all_pass test text ≡ true → ConsistsOf test text
consists_from test [] h = tt
consists_from test (b ∷ text) h = consists_by test b text (test b) refl h (consists_from test text)

abbrev pub is_some : List ℕ → Bool
is_some [] = false
is_some (b ∷ text) = true

pub filled_from : (text : List ℕ) → is_some text ≡ true → text ≢ []
filled_from [] h e = absurd cc
filled_from (b ∷ text) h e = absurd cc

-- the word is found in the table, and no other in its place; its octets pass the test; there are some
abbrev pub IsRow : {V : Type 0} → (ℕ → Bool) → (V → List ℕ) → List V → V → Type 0
IsRow test name all v = (find (λ u. str_eq_ignore_ascii_case (name v) (name u)) all ≡ Some v) × (all_pass test (name v) ≡ true) × (is_some (name v) ≡ true)

pub table_from : {V : Type 0} {test : ℕ → Bool} {name : V → List ℕ} {all : List V} → ((v : V) → IsRow test name all v) → ((a b : ℕ) → to_ascii_lowercase a ≡ to_ascii_lowercase b → test b ≡ true → test a ≡ true) → IsTable test name all
table_from rows caseless = record {
  finds = λ v. (rows v).0;
  passes = λ v. consists_from _ _ (rows v).1;
  filled = λ v. filled_from _ (rows v).2;
  caseless = caseless;
}

flag_row : (v : SystemFlag) → IsRow is_atom_char flag_name SYSTEM_FLAGS v
flag_row flag.Answered = (refl, refl, refl)
flag_row _ = (refl, refl, refl)

pub flag_table : IsTable is_atom_char flag_name SYSTEM_FLAGS
flag_table = table_from flag_row either_case_atom

month_row : (v : Month) → IsRow is_word_char month_name MONTHS v
month_row month_word.Jan = (refl, refl, refl)
month_row _ = (refl, refl, refl)

pub month_table : IsTable is_word_char month_name MONTHS
month_table = table_from month_row either_case_word
