-- The case of a pattern makes no difference for letters without case.
use Rattle.std.proofs.Common.{◌≡◌, ℕ, Bool, true, false, cond, List, [], ◌∷◌, map, refl, sym, ap, ◌∙◌, arith}
use Rattle.std.specs.Prelude.{◌||◌, ◌&&◌, ◌==◌, not, codes}
use Rattle.std.specs.Char.{to_ascii_lowercase}
use Rattle.std.specs.List.{list_all}
use Rattle.std.proofs.lemmas.Bool.{and_parts, cond-true}
use Rattle.std.proofs.lemmas.Bool.Decides.{nat_tests}
use Rattle.std.proofs.lemmas.Str.Ascii.{lowercase-lowercase}
use Rattle.imap_names.specs.declared.letters.Letter.{Letter}
use Rattle.imap_names.specs.declared.token.Token.{Token}
use Rattle.imap_names.specs.declared.token.Token.TheVariants.{Any, AnyInLevel, Octet}
use Rattle.imap_names.specs.Letters.{letters_of}
use Rattle.imap_names.specs.MatchTest.{some_tail, some_tail_in_level, first_is, letters_match, is_match}
use Rattle.imap_names.specs.Pattern.{token_of, is_letter, ends_level, star, percent}

abbrev no_case : List Letter → Bool
no_case letters = list_all (λ (letter : Letter). letter.any_case) letters

-- two tests agree on letters without case
abbrev Agree : (List Letter → Bool) → (List Letter → Bool) → Type 0
Agree f g = (letters : List Letter) → no_case letters ≡ true → f letters ≡ g letters

module _ (f g : List Letter → Bool) (agree : Agree f g) where
  any_agree : Agree (some_tail f) (some_tail g)
  any_agree [] h = agree [] h
  any_agree (x ∷ xs) h =
      let parts : (x.any_case ≡ true) × (no_case xs ≡ true) = and_parts x.any_case (no_case xs) h in
      λ i. agree (x ∷ xs) h i || any_agree xs parts.1 i

  level_agree : Agree (some_tail_in_level f) (some_tail_in_level g)
  level_agree [] h = agree [] h
  level_agree (x ∷ xs) h =
      let parts : (x.any_case ≡ true) × (no_case xs ≡ true) = and_parts x.any_case (no_case xs) h in
      λ i. agree (x ∷ xs) h i || (not (ends_level x) && level_agree xs parts.1 i)

  letter_agree : (o p : ℕ) (x : Letter) → to_ascii_lowercase o ≡ to_ascii_lowercase p → x.any_case ≡ true → is_letter o x ≡ is_letter p x
  letter_agree o p x e any =
      cond-true _ _ _ any ∙ ap (λ n. n == to_ascii_lowercase x.octet) e ∙ sym (cond-true _ _ _ any)

  octet_agree : (o p : ℕ) → to_ascii_lowercase o ≡ to_ascii_lowercase p → Agree (first_is o f) (first_is p g)
  octet_agree o p e [] h = refl
  octet_agree o p e (x ∷ xs) h =
      let parts : (x.any_case ≡ true) × (no_case xs ≡ true) = and_parts x.any_case (no_case xs) h in
      λ i. letter_agree o p x e parts.0 i && agree xs parts.1 i

token_lower : (o : ℕ) → token_of (to_ascii_lowercase o) ≡ cond (o == star) Any (cond (o == percent) AnyInLevel (Octet (to_ascii_lowercase o)))
token_lower o =
    let s : (to_ascii_lowercase o == star) ≡ (o == star) = grind (arith, nat_tests) in
    let p : (to_ascii_lowercase o == percent) ≡ (o == percent) = grind (arith, nat_tests) in
    λ i. cond (s i) Any (cond (p i) AnyInLevel (Octet (to_ascii_lowercase o)))

tokens_agree : (a b : Bool) (o : ℕ) (ps qs : List Token) → Agree (letters_match ps) (letters_match qs) → Agree (letters_match (cond a Any (cond b AnyInLevel (Octet o)) ∷ ps)) (letters_match (cond a Any (cond b AnyInLevel (Octet (to_ascii_lowercase o))) ∷ qs))
tokens_agree true b o ps qs agree = any_agree (letters_match ps) (letters_match qs) agree
tokens_agree false true o ps qs agree = level_agree (letters_match ps) (letters_match qs) agree
tokens_agree false false o ps qs agree = octet_agree (letters_match ps) (letters_match qs) agree o (to_ascii_lowercase o) (sym (lowercase-lowercase o))

patterns_agree : (pattern : List ℕ) → Agree (letters_match (map token_of pattern)) (letters_match (map token_of (map to_ascii_lowercase pattern)))
patterns_agree [] letters h = refl
patterns_agree (o ∷ rest) letters h =
    tokens_agree (o == star) (o == percent) o (map token_of rest) (map token_of (map to_ascii_lowercase rest)) (patterns_agree rest) letters h
    ∙ ap (λ (t : Token). letters_match (t ∷ map token_of (map to_ascii_lowercase rest)) letters) (sym (token_lower o))

pub inbox_without_case : (pattern : List ℕ) → is_match (map token_of pattern) (codes "INBOX") ≡ is_match (map token_of (map to_ascii_lowercase pattern)) (codes "INBOX")
inbox_without_case pattern = patterns_agree pattern (letters_of (codes "INBOX")) refl
