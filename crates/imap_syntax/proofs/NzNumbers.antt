-- What is read as an nz-number is not 0.
use Rattle.std.proofs.Common.{◌≡◌, ◌<◌, ℕ, true, List, Some, arith}
use Rattle.std.proofs.lemmas.Bool.Decides.{nat_tests}
use Rattle.imap_syntax.specs.Lexical as lexical
use Rattle.imap_syntax.specs.Writing.{number}
use Rattle.imap_syntax.proofs.Numbers.{nz_number_lawful}
use Rattle.imap_syntax.proofs.Written.{nz_number_fits}

pub number_in_range : (high n : ℕ) (input rest : List ℕ) → (lexical.nz_number high).read input ≡ Some (n, rest) → (number 1 high).fits n ≡ true
number_in_range high n input rest e =
    let x = (nz_number_lawful high).sound input n rest e in
    nz_number_fits high n x.0 x.1

pub number_from_one : (high n : ℕ) (input rest : List ℕ) → (lexical.nz_number high).read input ≡ Some (n, rest) → 0 < n
number_from_one high n input rest e =
    let fits = number_in_range high n input rest e in
    grind (arith, nat_tests)
