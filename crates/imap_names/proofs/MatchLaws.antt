-- The tests of a match decide what they test.
use Rattle.std.proofs.Common.{◌≡◌, ℕ, Bool, true, false, not, List, [], ◌∷◌, ◌++◌, get_or, drop, refl, sym, ap, ◌∙◌, subst}
use Rattle.std.specs.Prelude.{IsTrue, ◌||◌, ◌&&◌, ◌↔◌}
use Rattle.std.specs.List.{list_any}
use Rattle.std.proofs.lemmas.Bool.{and_parts, and_from}
use Rattle.imap_names.specs.declared.letters.Letter.{Letter}
use Rattle.imap_names.specs.declared.token.Token.{Token}
use Rattle.imap_names.specs.declared.token.Token.TheVariants.{Any, AnyInLevel, Octet}
use Rattle.imap_names.specs.Letters.{letters_of, blank}
use Rattle.imap_names.specs.MatchTest.{some_tail, some_tail_in_level, first_is, letters_match, is_match, is_percent, ends_in_percent}
use Rattle.imap_names.specs.Pattern.{is_letter, ends_level, Fits, Cut, Matches, IsMatch, EndsInPercent}
use Rattle.imap_names.proofs.Spelling.{either-false}

-- a test and what it tests
abbrev Tests : (List Letter → Bool) → (List Letter → Type 0) → Type 0
Tests passes Passes = (letters : List Letter) → (passes letters ≡ true) ↔ Passes letters

module _ (passes : List Letter → Bool) (Passes : List Letter → Type 0) (tests : Tests passes Passes) where
  none_cut : (w : Token) → Cut w Passes [] → passes [] ≡ true
  none_cut w m = by m.piece m.rest m.are m.after
    where
      by : (piece rest : List Letter) → [] ≡ piece ++ rest → Passes rest → passes [] ≡ true
      by [] rest e p = (tests []).1 (subst Passes (sym e) p)
      by (y ∷ piece) rest e p = cc

  here_cut : (w : Token) (xs : List Letter) → Fits w [] → passes xs ≡ true → Cut w Passes xs
  here_cut w xs f h = record { piece = []; rest = xs; are = refl; fits = f; after = (tests xs).0 h }

  later_any : (x : Letter) (xs : List Letter) → Cut Any Passes xs → Cut Any Passes (x ∷ xs)
  later_any x xs m = record { piece = x ∷ m.piece; rest = m.rest; are = ap (λ z. x ∷ z) m.are; fits = tt; after = m.after }

  later_level : (x : Letter) (xs : List Letter) → ends_level x ≡ false → Cut AnyInLevel Passes xs → Cut AnyInLevel Passes (x ∷ xs)
  later_level x xs plain m = record {
    piece = x ∷ m.piece;
    rest = m.rest;
    are = ap (λ z. x ∷ z) m.are;
    fits = ap (λ b. b || list_any ends_level m.piece) plain ∙ m.fits;
    after = m.after;
  }

  or_true : (b c : Bool) → c ≡ true → (b || c) ≡ true
  or_true true c e = refl
  or_true false c e = e

  any_forth : (b : Bool) (x : Letter) (xs : List Letter) → passes (x ∷ xs) ≡ b → (some_tail passes xs ≡ true → Cut Any Passes xs) → (b || some_tail passes xs) ≡ true → Cut Any Passes (x ∷ xs)
  any_forth true x xs e more h = here_cut Any (x ∷ xs) tt e
  any_forth false x xs e more h = later_any x xs (more h)

  any_back : (x : Letter) (xs piece rest : List Letter) → (Cut Any Passes xs → some_tail passes xs ≡ true) → x ∷ xs ≡ piece ++ rest → Passes rest → (passes (x ∷ xs) || some_tail passes xs) ≡ true
  any_back x xs [] rest more e p = ap (λ b. b || some_tail passes xs) ((tests (x ∷ xs)).1 (subst Passes (sym e) p))
  any_back x xs (y ∷ piece) rest more e p =
      or_true (passes (x ∷ xs)) (some_tail passes xs) (more (record { piece = piece; rest = rest; are = ap (drop 1) e; fits = tt; after = p }))

  any_tested : Tests (some_tail passes) (Cut Any Passes)
  any_tested [] = (λ h. here_cut Any [] tt h, λ m. none_cut Any m)
  any_tested (x ∷ xs) = (
    λ h. any_forth (passes (x ∷ xs)) x xs refl (any_tested xs).0 h,
    λ m. any_back x xs m.piece m.rest (any_tested xs).1 m.are m.after,
  )

  abbrev level_later : Bool → List Letter → Bool
  level_later ends xs = not ends && some_tail_in_level passes xs

  level_forth : (b d : Bool) (x : Letter) (xs : List Letter) → passes (x ∷ xs) ≡ b → ends_level x ≡ d → (some_tail_in_level passes xs ≡ true → Cut AnyInLevel Passes xs) → (b || level_later d xs) ≡ true → Cut AnyInLevel Passes (x ∷ xs)
  level_forth true d x xs e k more h = here_cut AnyInLevel (x ∷ xs) refl e
  level_forth false false x xs e k more h = later_level x xs k (more h)
  level_forth false true x xs e k more h = cc

  level_back : (x : Letter) (xs piece rest : List Letter) → (Cut AnyInLevel Passes xs → some_tail_in_level passes xs ≡ true) → x ∷ xs ≡ piece ++ rest → list_any ends_level piece ≡ false → Passes rest → (passes (x ∷ xs) || level_later (ends_level x) xs) ≡ true
  level_back x xs [] rest more e free p = ap (λ b. b || level_later (ends_level x) xs) ((tests (x ∷ xs)).1 (subst Passes (sym e) p))
  level_back x xs (y ∷ piece) rest more e free p =
      let heads : x ≡ y = ap (λ z. get_or z 0 blank) e in
      let parts : (ends_level y ≡ false) × (list_any ends_level piece ≡ false) = either-false (ends_level y) (list_any ends_level piece) free in
      let plain : ends_level x ≡ false = ap ends_level heads ∙ parts.0 in
      let later : some_tail_in_level passes xs ≡ true = more (record { piece = piece; rest = rest; are = ap (drop 1) e; fits = parts.1; after = p }) in
      or_true (passes (x ∷ xs)) (level_later (ends_level x) xs) (ap (λ d. level_later d xs) plain ∙ later)

  level_tested : Tests (some_tail_in_level passes) (Cut AnyInLevel Passes)
  level_tested [] = (λ h. here_cut AnyInLevel [] refl h, λ m. none_cut AnyInLevel m)
  level_tested (x ∷ xs) = (
    λ h. level_forth (passes (x ∷ xs)) (ends_level x) x xs refl refl (level_tested xs).0 h,
    λ m. level_back x xs m.piece m.rest (level_tested xs).1 m.are m.fits m.after,
  )

  octet_back : (o : ℕ) (x y : Letter) (xs rest : List Letter) → x ∷ xs ≡ y ∷ rest → is_letter o y ≡ true → Passes rest → (is_letter o x && passes xs) ≡ true
  octet_back o x y xs rest e h p =
      let heads : x ≡ y = ap (λ z. get_or z 0 blank) e in
      let tails : xs ≡ rest = ap (drop 1) e in
      and_from (is_letter o x) (passes xs) (ap (is_letter o) heads ∙ h) ((tests xs).1 (subst Passes (sym tails) p))

  octet_none : (o : ℕ) → ¬ (Cut (Octet o) Passes [])
  octet_none o m = let e : [] ≡ m.fits.0 ∷ m.rest = m.are ∙ ap (λ z. z ++ m.rest) m.fits.1 in cc

  octet_tested : (o : ℕ) → Tests (first_is o passes) (Cut (Octet o) Passes)
  octet_tested o [] = (λ h. cc, λ m. absurd (octet_none o m))
  octet_tested o (x ∷ xs) = (
    λ h.
        let parts : (is_letter o x ≡ true) × (passes xs ≡ true) = and_parts (is_letter o x) (passes xs) h in
        record { piece = x ∷ []; rest = xs; are = refl; fits = (x, refl, parts.0); after = (tests xs).0 parts.1 },
    λ m. octet_back o x m.fits.0 xs m.rest (m.are ∙ ap (λ z. z ++ m.rest) m.fits.1) m.fits.2 m.after,
  )

pub letters_tested : (pattern : List Token) → Tests (letters_match pattern) (Matches pattern)
letters_tested [] [] = (λ h. refl, λ e. refl)
letters_tested [] (x ∷ xs) = (λ h. cc, λ e. cc)
letters_tested (Any ∷ more) letters = any_tested (letters_match more) (Matches more) (letters_tested more) letters
letters_tested (AnyInLevel ∷ more) letters = level_tested (letters_match more) (Matches more) (letters_tested more) letters
letters_tested (Octet o ∷ more) letters = octet_tested (letters_match more) (Matches more) (letters_tested more) o letters

pub match_tested : (pattern : List Token) (text : List ℕ) → IsTrue (is_match pattern text) ↔ IsMatch pattern text
match_tested pattern text = letters_tested pattern (letters_of text)

-- an answer that says whether letters match is that of the test
pub is_tested : (pattern : List Token) (letters : List Letter) (b : Bool) → IsTrue b ↔ Matches pattern letters → b ≡ letters_match pattern letters
is_tested pattern letters b h = by b (letters_match pattern letters) (λ e. (letters_tested pattern letters).1 (h.0 e)) (λ e. h.1 ((letters_tested pattern letters).0 e))
  where
    by : (a c : Bool) → (a ≡ true → c ≡ true) → (c ≡ true → a ≡ true) → a ≡ c
    by true c forth back = sym (forth refl)
    by false true forth back = back refl
    by false false forth back = refl

-- ---- the end of a pattern

percent_is : (token : Token) → is_percent token ≡ true → token ≡ AnyInLevel
percent_is Any h = cc
percent_is AnyInLevel h = refl
percent_is (Octet o) h = cc

percent_forth : (pattern : List Token) → ends_in_percent pattern ≡ true → EndsInPercent pattern
percent_forth [] h = cc
percent_forth (token ∷ []) h = ([], ap (λ t. t ∷ []) (percent_is token h))
percent_forth (token ∷ next ∷ more) h =
    let rest : EndsInPercent (next ∷ more) = percent_forth (next ∷ more) h in
    (token ∷ rest.0, ap (λ z. token ∷ z) rest.1)

percent_last : (front : List Token) → ends_in_percent (front ++ AnyInLevel ∷ []) ≡ true
percent_last [] = refl
percent_last (token ∷ []) = refl
percent_last (token ∷ next ∷ more) = percent_last (next ∷ more)

pub percent_tested : (pattern : List Token) → IsTrue (ends_in_percent pattern) ↔ EndsInPercent pattern
percent_tested pattern = (λ h. percent_forth pattern h, λ e. ap ends_in_percent e.1 ∙ percent_last e.0)
