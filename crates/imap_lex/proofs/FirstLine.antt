-- The line with which octets begin.
use Rattle.std.proofs.Common.{◌≡◌, ◌∙◌, ap, sym, refl, subst, suc, ℕ, ◌+◌, ◌-◌, ◌<◌, ◌≤◌, List, [], ◌∷◌, ◌++◌, append_assoc, append-nil, length, length-append, take, drop, get_or, arith, Bool, true, false, Option, Some, None}
use Rattle.std.specs.Prelude.{eqb}
use Rattle.std.specs.List.{starts_with}
use Rattle.std.proofs.Math.Seq.{take-suc}
use Rattle.std.proofs.lemmas.Bool.{false_from_ne_true}
use Rattle.std.proofs.lemmas.Bool.Decides.{Decides-eqb}
use Rattle.std.proofs.lemmas.List.{length-take-le, take-append-drop}
use Rattle.std.proofs.lemmas.Slice.Eq.{starts_is}
use Rattle.imap_lex.specs.Framing.{crlf}
use Rattle.imap_lex.specs.LineEnd.{IsUnended, IsEnd, line_length}
use Rattle.imap_lex.specs.Stream.{HasNoCrlf, IsLine, LinesAreRead, LinesAreFound}
use Rattle.imap_lex.proofs.Ends.{HasNoCrlf-push, IsLine-push, HasNoCrlf-line}

begins : (xs : List ℕ) → starts_with eqb xs crlf ≡ true → xs ≡ crlf ++ drop 2 xs
begins xs e = (starts_is Decides-eqb xs crlf _ refl).0 e

begins_so : (xs rest : List ℕ) → xs ≡ crlf ++ rest → starts_with eqb xs crlf ≡ true
begins_so xs rest e = (starts_is Decides-eqb xs crlf _ refl).1 rest e

tail_none : (x : ℕ) (xs : List ℕ) → HasNoCrlf (x ∷ xs) → HasNoCrlf xs
tail_none x xs none front back e = none (x ∷ front) back (ap (λ (l : List ℕ). x ∷ l) e)

not_first : (x : ℕ) (text rest : List ℕ) → HasNoCrlf (x ∷ (text ++ 13 ∷ [])) → starts_with eqb (x ∷ (text ++ (crlf ++ rest))) crlf ≡ false
not_first x [] rest none = false_from_ne_true _ (λ e.
    let same = begins (x ∷ (crlf ++ rest)) e in
    cc)
not_first x (y ∷ text) rest none = false_from_ne_true _ (λ e.
    let same = begins (x ∷ ((y ∷ text) ++ (crlf ++ rest))) e in
    let first : x ≡ 13 = cc in
    let second : y ≡ 10 = cc in
    none [] (text ++ 13 ∷ []) (rw (first, second) refl))

found : (text rest : List ℕ) → HasNoCrlf (text ++ 13 ∷ []) → line_length (text ++ (crlf ++ rest)) ≡ Some (length text + 2)
found [] rest none = refl
found (x ∷ text) rest none =
    let sums : length text + 2 + 1 ≡ suc (length text) + 2 = omega arith in
    rw (not_first x text rest none, found text rest (tail_none x _ none), sums) refl

pub lines_are_found : LinesAreFound
lines_are_found line rest is =
    let text = is.ends.0 in
    let whole : line ++ rest ≡ text ++ (crlf ++ rest) = ap (λ (l : List ℕ). l ++ rest) is.ends.1 ∙ append_assoc text crlf rest in
    let lengths : length text + 2 ≡ length line = omega (arith, ap length is.ends.1, length-append text crlf) in
    ap line_length whole ∙ found text rest (HasNoCrlf-line line text is is.ends.1) ∙ ap Some lengths

IsLine-crlf : IsLine crlf
IsLine-crlf = record { ends = ([], refl); no_earlier = go }
  where
    go : (front back : List ℕ) → crlf ≡ front ++ (crlf ++ back) → back ≡ []
    go [] back e = cc
    go (x ∷ []) back e = cc
    go (x ∷ y ∷ []) back e = cc
    go (x ∷ y ∷ z ∷ front) back e = cc

IsLine-more : (b : ℕ) (bs : List ℕ) (n : ℕ) → starts_with eqb (b ∷ bs) crlf ≡ false → IsLine (take n bs) → IsLine (b ∷ take n bs)
IsLine-more b bs n other is = record { ends = (b ∷ is.ends.0, ap (λ (l : List ℕ). b ∷ l) is.ends.1); no_earlier = go }
  where
    go : (front back : List ℕ) → b ∷ take n bs ≡ front ++ (crlf ++ back) → back ≡ []
    go [] back e =
        let first : b ≡ 13 = cc in
        let rest : take n bs ≡ 10 ∷ back = cc in
        let whole : b ∷ bs ≡ crlf ++ (back ++ drop n bs) = rw first (ap (λ (l : List ℕ). 13 ∷ l) (sym (take-append-drop n bs) ∙ ap (λ (l : List ℕ). l ++ drop n bs) rest)) in
        let ended = begins_so (b ∷ bs) (back ++ drop n bs) whole in
        cc
    go (x ∷ front) back e = is.no_earlier front back cc

pub lines_are_read : LinesAreRead
lines_are_read [] len e = cc
lines_are_read (b ∷ bs) len e = go (starts_with eqb (b ∷ bs) crlf) refl (line_length bs) refl (lines_are_read bs)
  where
    go : (first : Bool) → starts_with eqb (b ∷ bs) crlf ≡ first → (later : Option ℕ) → line_length bs ≡ later →
        ((n : ℕ) → line_length bs ≡ Some n → (n ≤ length bs) × IsLine (take n bs)) →
        (len ≤ length (b ∷ bs)) × IsLine (take len (b ∷ bs))
    go true f later l ih =
        let here : Some 2 ≡ Some len = rw f at e in
        let two : 2 ≡ len = cc in
        let whole = begins (b ∷ bs) f in
        let lengths : length (b ∷ bs) ≡ suc (suc (length (drop 2 (b ∷ bs)))) = ap length whole in
        (omega arith, subst (λ (k : ℕ). IsLine (take k (b ∷ bs))) two (subst IsLine (sym (ap (take 2) whole)) IsLine-crlf))
    go false f None l ih = let none : None ≡ Some len = rw (f, l) at e in cc
    go false f (Some n) l ih =
        let here : Some (n + 1) ≡ Some len = rw (f, l) at e in
        let next : n + 1 ≡ len = cc in
        let same : suc n ≡ len = omega arith in
        (omega (arith, (ih n l).0), subst (λ (k : ℕ). IsLine (take k (b ∷ bs))) same (IsLine-more b bs n f (ih n l).1))

-- Where no line ends, CRLF stands nowhere.
HasNoCrlf-unended : (front xs : List ℕ) → HasNoCrlf front → IsUnended front xs → HasNoCrlf (front ++ xs)
HasNoCrlf-unended front [] none is = subst HasNoCrlf (sym (append-nil front)) none
HasNoCrlf-unended front (b ∷ xs) none is =
    subst HasNoCrlf (append_assoc front (b ∷ []) xs) (HasNoCrlf-unended (front ++ b ∷ []) xs (HasNoCrlf-push front b none is.0) is.1)

HasNoCrlf-nil : HasNoCrlf []
HasNoCrlf-nil [] back e = cc
HasNoCrlf-nil (x ∷ front) back e = cc

pub line_length-end : (octets : List ℕ) (len : ℕ) → IsEnd [] octets len → Some len ≡ line_length octets
line_length-end octets len is =
    let at : len - 1 < length octets = omega (arith, is.some, is.within) in
    let back : suc (len - 1) ≡ len = omega (arith, is.some) in
    let last : take len octets ≡ take (len - 1) octets ++ get_or octets (len - 1) 0 ∷ [] = ap (λ (n : ℕ). take n octets) (sym back) ∙ take-suc octets (len - 1) 0 at in
    let line : IsLine (take len octets) = rw last (IsLine-push _ _ (HasNoCrlf-unended [] (take (len - 1) octets) HasNoCrlf-nil is.first) (rw last at is.ends)) in
    sym (ap line_length (sym (take-append-drop len octets)) ∙ lines_are_found (take len octets) (drop len octets) line ∙ ap Some (length-take-le len octets is.within))

pub line_length-none : (octets : List ℕ) → IsUnended [] octets → None ≡ line_length octets
line_length-none octets is = go (line_length octets) refl
  where
    go : (found : Option ℕ) → line_length octets ≡ found → None ≡ found
    go None e = refl
    go (Some n) e =
        let line = (lines_are_read octets n e).1 in
        let whole = sym (take-append-drop n octets) ∙ ap (λ (l : List ℕ). l ++ drop n octets) line.ends.1 ∙ append_assoc line.ends.0 crlf (drop n octets) in
        absurd (HasNoCrlf-unended [] octets HasNoCrlf-nil is line.ends.0 (drop n octets) whole)
