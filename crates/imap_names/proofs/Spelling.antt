-- Tokens and wildcards, letter by letter.
use Rattle.std.proofs.Common.{◌≡◌, ℕ, suc, ◌+◌, ◌<◌, ◌≤◌, Bool, true, false, List, [], ◌∷◌, ◌++◌, length, get_or, take, drop, drop-cons, length-drop, add-one, refl, sym, ap, ◌∙◌, subst, append_assoc, arith}
use Rattle.std.specs.Prelude.{◌||◌, ◌↔◌}
use Rattle.std.specs.Char.{to_ascii_lowercase}
use Rattle.std.specs.List.{list_any}
use Rattle.std.proofs.lemmas.Bool.{eqb-true, cond-true, cond-false}
use Rattle.std.proofs.lemmas.Bool.Decides.{nat_tests}
use Rattle.std.proofs.lemmas.List.{take-append-drop, take_more, drop_all, length-take-le}
use Rattle.std.proofs.Math.Seq.{drop-append_seam}
use Rattle.imap_names.specs.declared.letters.Letter.{Letter}
use Rattle.imap_names.specs.declared.token.Token.{Token}
use Rattle.imap_names.specs.declared.token.Token.TheVariants.{Any, AnyInLevel, Octet}
use Rattle.imap_names.specs.Letters.{blank}
use Rattle.imap_names.specs.Pattern.{is_letter, ends_level, Fits, Cut, Matches}
use Rattle.imap_names.specs.Text.{is_delimiter}
use Rattle.imap_names.specs.Walk.{spells, AreSpelled}

-- ---- tokens that spell letters

pub spelled_more : (ps : List Token) (xs : List Letter) (p : Token) (x : Letter) → AreSpelled ps xs → spells p x ≡ true → AreSpelled (ps ++ p ∷ []) (xs ++ x ∷ [])
spelled_more [] [] p x h e = (e, tt)
spelled_more [] (y ∷ xs) p x h e = absurd h
spelled_more (q ∷ ps) [] p x h e = absurd h
spelled_more (q ∷ ps) (y ∷ xs) p x h e = (h.0, spelled_more ps xs p x h.1 e)

spelled-length : (ps : List Token) (xs : List Letter) → AreSpelled ps xs → length xs ≡ length ps
spelled-length [] [] h = refl
spelled-length [] (y ∷ xs) h = absurd h
spelled-length (q ∷ ps) [] h = absurd h
spelled-length (q ∷ ps) (y ∷ xs) h = ap suc (spelled-length ps xs h.1)

fits_one : (p : Token) (x : Letter) → spells p x ≡ true → Fits p (x ∷ [])
fits_one Any x h = tt
fits_one AnyInLevel x h = cc
fits_one (Octet o) x h = (x, refl, h)

-- before a match, tokens and the letters that they spell
pub through : (ps : List Token) (xs : List Letter) (p : List Token) (t : List Letter) → AreSpelled ps xs → Matches p t → Matches (ps ++ p) (xs ++ t)
through [] [] p t h m = m
through [] (y ∷ xs) p t h m = absurd h
through (q ∷ ps) [] p t h m = absurd h
through (q ∷ ps) (y ∷ xs) p t h m = record {
  piece = y ∷ [];
  rest = xs ++ t;
  are = refl;
  fits = fits_one q y h.0;
  after = through ps xs p t h.1 m;
}

-- what these tokens and more match begins with letters that they spell
pub record Spelt (ps p : List Token) (t : List Letter) : Type 0 where
  pub front : List Letter
  pub rest : List Letter
  pub are : t ≡ front ++ rest
  pub same : AreSpelled ps front
  pub after : Matches p rest

pub spelt_front : (ps : List Token) (xs : List Letter) (p : List Token) (t : List Letter) → AreSpelled ps xs → Matches (ps ++ p) t → Spelt ps p t
spelt_front [] [] p t h m = record { front = []; rest = t; are = refl; same = tt; after = m }
spelt_front [] (y ∷ xs) p t h m = absurd h
spelt_front (q ∷ ps) [] p t h m = absurd h
spelt_front (Any ∷ ps) (y ∷ xs) p t h m = let e : false ≡ true = h.0 in cc
spelt_front (AnyInLevel ∷ ps) (y ∷ xs) p t h m = let e : false ≡ true = h.0 in cc
spelt_front (Octet o ∷ ps) (y ∷ xs) p t h m =
    let r : Spelt ps p m.rest = spelt_front ps xs p m.rest h.1 m.after in
    record {
      front = m.fits.0 ∷ r.front;
      rest = r.rest;
      are = m.are ∙ ap (λ z. z ++ m.rest) m.fits.1 ∙ ap (λ z. m.fits.0 ∷ z) r.are;
      same = (m.fits.2, r.same);
      after = r.after;
    }

-- ---- delimiters

lower_kind : (o : ℕ) → is_delimiter (to_ascii_lowercase o) ≡ is_delimiter o
lower_kind o = grind (arith, nat_tests)

-- an octet is a delimiter if its letter is one
kind_of : (o : ℕ) (x : Letter) → is_letter o x ≡ true → is_delimiter o ≡ ends_level x
kind_of o x h = by x.any_case refl
  where
    by : (b : Bool) → x.any_case ≡ b → is_delimiter o ≡ ends_level x
    by true e =
        let low : to_ascii_lowercase o ≡ to_ascii_lowercase x.octet = eqb-true _ _ (sym (cond-true _ _ _ e) ∙ h) in
        sym (lower_kind o) ∙ ap is_delimiter low ∙ lower_kind x.octet
    by false e = ap is_delimiter (eqb-true o x.octet (sym (cond-false _ _ _ e) ∙ h))

same_kind : (p : Token) (x y : Letter) → spells p x ≡ true → spells p y ≡ true → ends_level x ≡ ends_level y
same_kind Any x y h k = cc
same_kind AnyInLevel x y h k = cc
same_kind (Octet o) x y h k = sym (kind_of o x h) ∙ kind_of o y k

pub record Slid (back rest : List Letter) : Type 0 where
  pub piece : List Letter
  pub free : list_any ends_level piece ≡ false
  pub are : rest ≡ piece ++ back

pub either-false : (a b : Bool) → (a || b) ≡ false → (a ≡ false) × (b ≡ false)
either-false true b h = cc
either-false false b h = (refl, h)

pub put_last : (xs : List Letter) (y : Letter) → list_any ends_level xs ≡ false → ends_level y ≡ false → list_any ends_level (xs ++ y ∷ []) ≡ false
put_last [] y h k = ap (λ b. b || false) k
put_last (x ∷ xs) y h k =
    let parts : (ends_level x ≡ false) × (list_any ends_level xs ≡ false) = either-false (ends_level x) (list_any ends_level xs) h in
    ap (λ b. b || list_any ends_level (xs ++ y ∷ [])) parts.0 ∙ put_last xs y parts.1 k

-- the tokens spell the front, and spell it again after a piece without a delimiter: after the first of both another
-- piece without a delimiter leads to the same rest
pub slides : (ps : List Token) (xs ys piece back rest : List Letter) → AreSpelled ps xs → AreSpelled ps ys → list_any ends_level piece ≡ false → piece ++ (ys ++ back) ≡ xs ++ rest → Slid back rest
slides [] [] [] piece back rest h k free e = record { piece = piece; free = free; are = sym e }
slides [] [] (y ∷ ys) piece back rest h k free e = absurd k
slides [] (x ∷ xs) ys piece back rest h k free e = absurd h
slides (p ∷ ps) [] ys piece back rest h k free e = absurd h
slides (p ∷ ps) (x ∷ xs) [] piece back rest h k free e = absurd k
slides (p ∷ ps) (x ∷ xs) (y ∷ ys) [] back rest h k free e =
    let tails : ys ++ back ≡ xs ++ rest = ap (drop 1) e in
    slides ps xs ys [] back rest h.1 k.1 refl tails
slides (p ∷ ps) (x ∷ xs) (y ∷ ys) (f ∷ piece) back rest h k free e =
    let heads : f ≡ x = ap (λ z. get_or z 0 blank) e in
    let tails : piece ++ (y ∷ ys ++ back) ≡ xs ++ rest = ap (drop 1) e in
    let parts : (ends_level f ≡ false) × (list_any ends_level piece ≡ false) = either-false (ends_level f) (list_any ends_level piece) free in
    let plain : ends_level y ≡ false = same_kind p y x k.0 h.0 ∙ ap ends_level (sym heads) ∙ parts.0 in
    slides ps xs ys (piece ++ y ∷ []) back rest h.1 k.1 (put_last piece y parts.1 plain) (append_assoc piece (y ∷ []) (ys ++ back) ∙ tails)

-- ---- a wildcard at the next letter

pub star_further : (p : List Token) (x : Letter) (t : List Letter) → ¬ (Matches p (x ∷ t)) → Matches (Any ∷ p) (x ∷ t) ↔ Matches (Any ∷ p) t
star_further p x t not = (
  λ m. forth m.piece m.rest m.are m.after,
  λ m. record {
    piece = x ∷ m.piece;
    rest = m.rest;
    are = ap (λ z. x ∷ z) m.are;
    fits = tt;
    after = m.after;
  },
)
  where
    forth : (piece rest : List Letter) → x ∷ t ≡ piece ++ rest → Matches p rest → Matches (Any ∷ p) t
    forth [] rest e m = absurd (not (subst (Matches p) (sym e) m))
    forth (y ∷ piece) rest e m = record { piece = piece; rest = rest; are = ap (drop 1) e; fits = tt; after = m }

pub percent_further : (p : List Token) (x : Letter) (t : List Letter) → ends_level x ≡ false → ¬ (Matches p (x ∷ t)) → Matches (AnyInLevel ∷ p) (x ∷ t) ↔ Matches (AnyInLevel ∷ p) t
percent_further p x t plain not = (
  λ m. forth m.piece m.rest m.are m.fits m.after,
  λ m. record {
    piece = x ∷ m.piece;
    rest = m.rest;
    are = ap (λ z. x ∷ z) m.are;
    fits = ap (λ b. b || list_any ends_level m.piece) plain ∙ m.fits;
    after = m.after;
  },
)
  where
    forth : (piece rest : List Letter) → x ∷ t ≡ piece ++ rest → list_any ends_level piece ≡ false → Matches p rest → Matches (AnyInLevel ∷ p) t
    forth [] rest e free m = absurd (not (subst (Matches p) (sym e) m))
    forth (y ∷ piece) rest e free m = record {
      piece = piece;
      rest = rest;
      are = ap (drop 1) e;
      fits = (either-false (ends_level y) (list_any ends_level piece) free).1;
      after = m;
    }

pub percent_stops : (p : List Token) (x : Letter) (t : List Letter) → ends_level x ≡ true → ¬ (Matches p (x ∷ t)) → ¬ (Matches (AnyInLevel ∷ p) (x ∷ t))
percent_stops p x t delimits not m = by m.piece m.rest m.are m.fits m.after
  where
    by : (piece rest : List Letter) → x ∷ t ≡ piece ++ rest → list_any ends_level piece ≡ false → ¬ (Matches p rest)
    by [] rest e free k = not (subst (Matches p) (sym e) k)
    by (y ∷ piece) rest e free k =
        let heads : x ≡ y = ap (λ z. get_or z 0 blank) e in
        let plain : ends_level y ≡ false = (either-false (ends_level y) (list_any ends_level piece) free).0 in
        let other : ends_level y ≡ true = ap ends_level (sym heads) ∙ delimits in
        let no_way : true ≡ false = sym other ∙ plain in cc

pub ends : (w : Token) (p : List Token) → ¬ (Matches p []) → ¬ (Matches (w ∷ p) [])
ends w p not m = by m.piece m.rest m.are m.after
  where
    by : (piece rest : List Letter) → [] ≡ piece ++ rest → ¬ (Matches p rest)
    by [] rest e k = not (subst (Matches p) (sym e) k)
    by (y ∷ piece) rest e k = cc

pub nothing_fits : (p : List Token) (t : List Letter) → Matches p t → Matches (AnyInLevel ∷ p) t × Matches (Any ∷ p) t
nothing_fits p t m = (
  record { piece = []; rest = t; are = refl; fits = refl; after = m },
  record { piece = []; rest = t; are = refl; fits = tt; after = m },
)

-- ---- by places

pub at_place : (t : List Letter) (i : ℕ) → i < length t → drop i t ≡ get_or t i blank ∷ drop (i + 1) t
at_place t i lt = rw add-one (drop-cons t i blank lt)

pub common_more : (ps : List Token) (xs : List Letter) (n : ℕ) → n < length ps → n < length xs → AreSpelled (take n ps) (take n xs) → spells (get_or ps n Any) (get_or xs n blank) ≡ true → AreSpelled (take (n + 1) ps) (take (n + 1) xs)
common_more ps xs n lp lx h e =
    subst (λ (z : List Token). AreSpelled z (take (n + 1) xs)) (sym (take_more ps n Any lp))
    (subst (λ (z : List Letter). AreSpelled (take n ps ++ get_or ps n Any ∷ []) z) (sym (take_more xs n blank lx)) (spelled_more (take n ps) (take n xs) _ _ h e))

-- a front that is spelled, and a match after it
pub meets : (ps : List Token) (xs : List Letter) (n : ℕ) → AreSpelled (take n ps) (take n xs) → Matches (drop n ps) (drop n xs) → Matches ps xs
meets ps xs n h m =
    subst (λ (z : List Token). Matches z xs) (take-append-drop n ps)
    (subst (Matches (take n ps ++ drop n ps)) (take-append-drop n xs) (through (take n ps) (take n xs) (drop n ps) (drop n xs) h m))

pub parts : (ps : List Token) (ys : List Letter) (n : ℕ) (t : List Letter) → AreSpelled (take n ps) ys → Matches ps t → Spelt (take n ps) (drop n ps) t
parts ps ys n t h m = spelt_front (take n ps) ys (drop n ps) t h (subst (λ (z : List Token). Matches z t) (sym (take-append-drop n ps)) m)

rest_is : (ps : List Token) (n : ℕ) (t : List Letter) → n ≤ length ps → (b : Spelt (take n ps) (drop n ps) t) → b.rest ≡ drop n t
rest_is ps n t le b =
    let l : length b.front ≡ n = spelled-length (take n ps) b.front b.same ∙ length-take-le n ps le in
    sym (ap (drop n) b.are ∙ ap (λ k. drop k (b.front ++ b.rest)) (sym l) ∙ drop-append_seam b.front b.rest)

pub passes : (ps : List Token) (ys : List Letter) (n : ℕ) (t : List Letter) → n ≤ length ps → AreSpelled (take n ps) ys → Matches ps t → Matches (drop n ps) (drop n t)
passes ps ys n t le h m =
    let b : Spelt (take n ps) (drop n ps) t = parts ps ys n t h m in
    subst (Matches (drop n ps)) (rest_is ps n t le b) b.after

pub meets_end : (ps : List Token) (xs : List Letter) (n : ℕ) → AreSpelled (take n ps) (take n xs) → length ps ≤ n → length xs ≤ n → Matches ps xs
meets_end ps xs n h lp lx = meets ps xs n h (subst (λ (z : List Token). Matches z (drop n xs)) (sym (drop_all n ps lp)) (drop_all n xs lx))

pub ends_before : (ps : List Token) (xs : List Letter) (n : ℕ) → n ≡ length ps → n < length xs → AreSpelled (take n ps) (take n xs) → ¬ (Matches ps xs)
ends_before ps xs n e lx h m =
    let le : n ≤ length ps = omega arith in
    let ge : length ps ≤ n = omega arith in
    let none : drop n xs ≡ [] = subst (λ (z : List Token). Matches z (drop n xs)) (drop_all n ps ge) (passes ps (take n xs) n xs le h m) in
    let l : length (drop n xs) ≡ 0 = ap length none in
    omega (arith, length-drop {A = Letter})

pub differs : (ps : List Token) (xs : List Letter) (n o : ℕ) → n < length ps → AreSpelled (take n ps) (take n xs) → get_or ps n Any ≡ Octet o → (n < length xs → spells (get_or ps n Any) (get_or xs n blank) ≡ false) → ¬ (Matches ps xs)
differs ps xs n o lp h is other m =
    let le : n ≤ length ps = omega arith in
    let here : drop n ps ≡ Octet o ∷ drop (n + 1) ps = rw add-one (drop-cons ps n Any lp) ∙ ap (λ z. z ∷ drop (n + 1) ps) is in
    let c : Cut (Octet o) (Matches (drop (n + 1) ps)) (drop n xs) = subst (λ (z : List Token). Matches z (drop n xs)) here (passes ps (take n xs) n xs le h m) in
    let begins : drop n xs ≡ c.fits.0 ∷ c.rest = c.are ∙ ap (λ z. z ++ c.rest) c.fits.1 in
    let l : length (drop n xs) ≡ suc (length c.rest) = ap length begins in
    let lx : n < length xs = omega (arith, length-drop {A = Letter}) in
    let x : get_or xs n blank ≡ c.fits.0 = ap (λ z. get_or z 0 blank) (sym (at_place xs n lx) ∙ begins) in
    let t : true ≡ false = sym c.fits.2 ∙ ap (spells (Octet o)) (sym x) ∙ ap (λ z. spells z (get_or xs n blank)) (sym is) ∙ other lx in cc
