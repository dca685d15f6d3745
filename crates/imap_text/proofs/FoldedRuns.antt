-- The fold of a text is the folds of its runs.
use Rattle.std.proofs.Common.{◌≡◌, ◌∙◌, ap, ap₂, sym, refl, subst, ℕ, suc, eqb, true, append-nil, ◌+◌, ◌-◌, List, [], ◌∷◌, ◌++◌, append_assoc, length, length-append, take, map, arith, chars, encode_utf8_all, IsUtf8, IsAscii}
use Rattle.std.specs.Char.{to_ascii_lowercase}
use Rattle.std.proofs.lemmas.Bool.{eqb-true}
use Rattle.std.proofs.lemmas.Str.{chars-append, chars-nil, encodes-append, IsUtf8-from_ascii, IsAscii-append}
use Rattle.caseless.specs.Caseless.{default_case_fold}
use Rattle.caseless.proofs.CaselessLemmas.{default_case_fold-append, default_case_fold-nil}
use Rattle.imap_text.specs.Folds.{folded_text}
use Rattle.imap_text.specs.Runs.{FollowsAscii, IsRun}
use Rattle.imap_text.proofs.Ascii.{lower_ascii}

-- folding goes character by character
pub folded-append : (xs ys : List ℕ) → IsUtf8 xs → folded_text (xs ++ ys) ≡ folded_text xs ++ folded_text ys
folded-append xs ys utf8 =
    ap (λ (l : List ℕ). encode_utf8_all (default_case_fold l)) (chars-append xs ys utf8)
    ∙ ap encode_utf8_all (default_case_fold-append (chars xs) (chars ys))
    ∙ encodes-append (default_case_fold (chars xs)) (default_case_fold (chars ys))

pub folded-run : (text ascii other later : List ℕ) → IsRun text ascii other later → folded_text text ≡ map to_ascii_lowercase ascii ++ (folded_text other ++ folded_text later)
folded-run text ascii other later run =
    ap folded_text run.whole
    ∙ folded-append ascii (other ++ later) (IsUtf8-from_ascii ascii run.is_ascii)
    ∙ ap₂ ◌++◌ (lower_ascii ascii run.is_ascii) (folded-append other later run.other_utf8)

-- the next run is folded
pub folded-more : (done next more rest ascii other later whole : List ℕ) → IsRun rest ascii other later
    → next ≡ done ++ map to_ascii_lowercase ascii → more ≡ next ++ folded_text other
    → done ++ folded_text rest ≡ whole → more ++ folded_text later ≡ whole
folded-more done next more rest ascii other later whole run first second so_far =
    let lower = map to_ascii_lowercase ascii in
    ap (λ (l : List ℕ). l ++ folded_text later) (second ∙ ap (λ (l : List ℕ). l ++ folded_text other) first)
    ∙ append_assoc (done ++ lower) (folded_text other) (folded_text later)
    ∙ append_assoc done lower (folded_text other ++ folded_text later)
    ∙ ap (λ (l : List ℕ). done ++ l) (sym (folded-run rest ascii other later run))
    ∙ so_far

folded-nil : folded_text [] ≡ []
folded-nil = ap (λ (l : List ℕ). encode_utf8_all (default_case_fold l)) chars-nil ∙ ap encode_utf8_all default_case_fold-nil

-- no run is left
pub folded-end : (done rest whole : List ℕ) → eqb (length rest) 0 ≡ true → done ++ folded_text rest ≡ whole → done ≡ whole
folded-end done [] whole e so_far = sym (append-nil done) ∙ ap (λ (l : List ℕ). done ++ l) (sym folded-nil) ∙ so_far
folded-end done (b ∷ rest) whole e so_far = absurd (omega (arith, eqb-true (length (b ∷ rest)) 0 e))

-- ---- blocks of ASCII

take_over : (front : List ℕ) (n : ℕ) (rest : List ℕ) → take (length front + n) (front ++ rest) ≡ front ++ take n rest
take_over [] n rest = let none : 0 + n ≡ n = omega arith in ap (λ (k : ℕ). take k rest) none
take_over (b ∷ front) n rest =
    let one : length (b ∷ front) + n ≡ suc (length front + n) = omega arith in
    ap (λ (k : ℕ). take k (b ∷ (front ++ rest))) one ∙ ap (λ (l : List ℕ). b ∷ l) (take_over front n rest)

pub FollowsAscii-all : (octets : List ℕ) → FollowsAscii octets octets
FollowsAscii-all octets = record { front = []; ascii = λ i. omega arith; is = refl }

pub FollowsAscii-block : (octets rest block later : List ℕ) → rest ≡ block ++ later → IsAscii block → FollowsAscii octets rest → FollowsAscii octets later
FollowsAscii-block octets rest block later e ascii so_far = record {
  front = so_far.front ++ block;
  ascii = IsAscii-append so_far.front block so_far.ascii ascii;
  is = so_far.is ∙ ap (λ (l : List ℕ). so_far.front ++ l) e ∙ sym (append_assoc so_far.front block later);
}

pub ascii_front : (octets rest : List ℕ) (n : ℕ) → FollowsAscii octets rest → IsAscii (take n rest) → IsAscii (take (length octets - length rest + n) octets)
ascii_front octets rest n is ascii =
    let far : length octets - length rest + n ≡ length is.front + n = omega (arith, ap length is.is, length-append is.front rest) in
    let cut : take (length is.front + n) octets ≡ is.front ++ take n rest = ap (take (length is.front + n)) is.is ∙ take_over is.front n rest in
    subst IsAscii (sym (ap (λ (k : ℕ). take k octets) far ∙ cut)) (IsAscii-append is.front (take n rest) is.ascii ascii)
