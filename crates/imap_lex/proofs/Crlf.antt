-- Where CRLF stands in octets.
use Rattle.std.proofs.Common.{◌≡◌, ◌∙◌, ap, sym, refl, ℕ, ◌-◌, inl, inr, List, [], ◌∷◌, ◌++◌, append_assoc, length, take, arith, true}
use Rattle.std.specs.Prelude.{eqb}
use Rattle.std.specs.List.{ends_with}
use Rattle.std.proofs.lemmas.Bool.{cases_Bool, false_from_ne_true, eqb-true}
use Rattle.std.proofs.lemmas.Bool.Decides.{Decides-eqb, nat_tests}
use Rattle.std.proofs.lemmas.List.{same_from_push}
use Rattle.std.proofs.lemmas.Slice.Eq.{ends_is}
use Rattle.imap_lex.specs.Framing.{crlf}

pub ends_with-crlf : (line front : List ℕ) → line ≡ front ++ crlf → ends_with eqb line crlf ≡ true
ends_with-crlf line front e = (ends_is Decides-eqb line crlf _ refl).1 front e

-- what stands before a CRLF at the end
pub before_crlf : (line : List ℕ) → ends_with eqb line crlf ≡ true → (text : List ℕ) × (line ≡ text ++ crlf)
before_crlf line e = (take (length line - 2) line, (ends_is Decides-eqb line crlf _ refl).0 e)

before_cr : (line : List ℕ) → ends_with eqb line (13 ∷ []) ≡ true → (text : List ℕ) × (line ≡ text ++ 13 ∷ [])
before_cr line e = (take (length line - 1) line, (ends_is Decides-eqb line (13 ∷ []) _ refl).0 e)

cr_pushed : (xs : List ℕ) → ends_with eqb (xs ++ 13 ∷ []) (13 ∷ []) ≡ true
cr_pushed xs = (ends_is Decides-eqb (xs ++ 13 ∷ []) (13 ∷ []) _ refl).1 xs refl

-- a line feed behind a carriage return makes a CRLF
pub lf_ends : (xs : List ℕ) → ends_with eqb xs (13 ∷ []) ≡ true → ends_with eqb (xs ++ 10 ∷ []) crlf ≡ true
lf_ends xs e =
    let front = before_cr xs e in
    ends_with-crlf (xs ++ 10 ∷ []) front.0 (ap (λ (l : List ℕ). l ++ 10 ∷ []) front.1 ∙ append_assoc front.0 (13 ∷ []) (10 ∷ []))

-- and only that does
pub crlf_parts : (xs : List ℕ) (b : ℕ) → ends_with eqb (xs ++ b ∷ []) crlf ≡ true → (ends_with eqb xs (13 ∷ []) ≡ true) × (b ≡ 10)
crlf_parts xs b e =
    let front = before_crlf (xs ++ b ∷ []) e in
    let parts = same_from_push xs (front.0 ++ 13 ∷ []) b 10 (front.1 ∙ sym (append_assoc front.0 (13 ∷ []) (10 ∷ []))) in
    ((ends_is Decides-eqb xs (13 ∷ []) _ refl).1 front.0 parts.0, parts.1)

pub ends_with-cr : (xs : List ℕ) (b : ℕ) → ends_with eqb (xs ++ b ∷ []) (13 ∷ []) ≡ eqb b 13
ends_with-cr xs b =
    elim (cases_Bool (eqb b 13)) [
      | inl is ↦ rw (eqb-true b 13 is) (cr_pushed xs)
      | inr other ↦ false_from_ne_true _ (λ e. let front = before_cr (xs ++ b ∷ []) e in let parts = same_from_push xs front.0 b 13 front.1 in grind (arith, nat_tests, parts.1, other)) ∙ sym other
    ]
