-- What is read as an atom is one, and stays one in lower case.
use Rattle.std.proofs.Common.{◌≡◌, ℕ, true, false, not, eqb, List, [], ◌∷◌, length, map, Some, refl, arith}
use Rattle.std.specs.Prelude.{IfOk, Result, Ok, Err}
use Rattle.std.specs.Char.{to_ascii_lowercase}
use Rattle.std.specs.List.{list_all}
use Rattle.std.specs.Str.{str_to_ascii_lowercase}
use Rattle.std.proofs.lemmas.Bool.Decides.{nat_tests}
use Rattle.imap_syntax.specs.Rule as rule
use Rattle.imap_syntax.specs.Lexical.{is_atom_char}
use Rattle.imap_syntax.specs.Reading.{Reads}
use Rattle.imap_syntax.specs.declared.error.ReadError.{ReadError}
use Rattle.imap_syntax.specs.Atoms.{IsAtom}
use Rattle.imap_syntax.proofs.RuleLaws.{some_read-some}
use Rattle.imap_syntax.proofs.Writing.{both_true, some_of_writes}

pub atom_from_read : (input a rest : List ℕ) → rule.some_read is_atom_char input ≡ Some (a, rest) → IsAtom a
atom_from_read input a rest e =
    let x = some_read-some is_atom_char input a rest e in
    (some_of_writes is_atom_char).fits a a (refl, x.2, x.3)

-- the same of code that lends what it reads
pub lent_atom : {X : Type 0} (view : X → List ℕ) (result : Result X ReadError) (rest input : List ℕ) → Reads view result rest (rule.some_read is_atom_char input) → IfOk result (λ s. IsAtom (view s))
lent_atom view (Ok s) rest input h = atom_from_read input (view s) rest h
lent_atom view (Err error) rest input h = tt

lower_char : (b : ℕ) → is_atom_char b ≡ true → is_atom_char (to_ascii_lowercase b) ≡ true
lower_char b h = grind (arith, nat_tests)

lower_all : (word : List ℕ) → list_all is_atom_char word ≡ true → list_all is_atom_char (map to_ascii_lowercase word) ≡ true
lower_all [] h = refl
lower_all (b ∷ word) h =
    let q = both_true (is_atom_char b) (list_all is_atom_char word) h in
    rw (lower_char b q.0, lower_all word q.1) refl

pub lowered_atom : (word : List ℕ) → IsAtom word → IsAtom (str_to_ascii_lowercase word)
lowered_atom [] h = absurd cc
lowered_atom (b ∷ word) h =
    let q = both_true (not (eqb (length (b ∷ word)) 0)) (list_all is_atom_char (b ∷ word)) h in
    let filled : eqb (length (map to_ascii_lowercase (b ∷ word))) 0 ≡ false = grind (arith, nat_tests) in
    rw (filled, lower_all (b ∷ word) q.1) refl
