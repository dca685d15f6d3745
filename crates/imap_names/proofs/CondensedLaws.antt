-- A run of wildcards matches as one of them.
use Rattle.std.proofs.Common.{◌≡◌, ℕ, zero, suc, ◌+◌, ◌<◌, ◌≤◌, Bool, true, false, not, List, [], ◌∷◌, ◌++◌, length, get_or, take, drop, drop-cons, add-one, refl, sym, ap, ◌∙◌, subst, append_assoc, arith}
use Rattle.std.specs.Prelude.{◌||◌, ◌&&◌}
use Rattle.std.proofs.lemmas.Bool.{and_parts}
use Rattle.imap_names.specs.declared.condensed.Run.{Run}
use Rattle.imap_names.specs.declared.condensed.Run.TheVariants.{Empty, InLevel, Across}
use Rattle.imap_names.specs.declared.letters.Letter.{Letter}
use Rattle.imap_names.specs.declared.token.Token.{Token}
use Rattle.imap_names.specs.declared.token.Token.TheVariants.{Any, AnyInLevel, Octet}
use Rattle.imap_names.specs.Condensed.{literals_of, run_tokens, Adds, Ends}
use Rattle.imap_names.specs.Letters.{letters_of}
use Rattle.imap_names.specs.MatchTest.{some_tail, some_tail_in_level, first_is, letters_match, is_match}
use Rattle.imap_names.specs.Pattern.{is_letter, ends_level}
use Rattle.imap_names.proofs.LetterLaws.{letters_are, length-lettered}

-- ---- tests of a run

or_twice : (a b : Bool) → ((a || b) || b) ≡ (a || b)
or_twice true b = refl
or_twice false true = refl
or_twice false false = refl

module _ (passes : List Letter → Bool) where
  level_within : (xs : List Letter) → (some_tail_in_level passes xs || some_tail passes xs) ≡ some_tail passes xs
  level_within [] = same (passes [])
    where
      same : (a : Bool) → (a || a) ≡ a
      same true = refl
      same false = refl
  level_within (x ∷ xs) = by (passes (x ∷ xs)) (ends_level x) (some_tail_in_level passes xs) (some_tail passes xs) (level_within xs)
    where
      by : (a d l s : Bool) → (l || s) ≡ s → ((a || (not d && l)) || (a || s)) ≡ (a || s)
      by true d l s e = refl
      by false true l s e = refl
      by false false l s e = e

  any_any : (xs : List Letter) → some_tail (some_tail passes) xs ≡ some_tail passes xs
  any_any [] = refl
  any_any (x ∷ xs) = ap (λ b. (passes (x ∷ xs) || some_tail passes xs) || b) (any_any xs) ∙ or_twice (passes (x ∷ xs)) (some_tail passes xs)

  any_level : (xs : List Letter) → some_tail (some_tail_in_level passes) xs ≡ some_tail passes xs
  any_level [] = refl
  any_level (x ∷ xs) =
      ap (λ b. (passes (x ∷ xs) || (not (ends_level x) && some_tail_in_level passes xs)) || b) (any_level xs)
      ∙ by (passes (x ∷ xs)) (ends_level x) (some_tail_in_level passes xs) (some_tail passes xs) (level_within xs)
    where
      by : (a d l s : Bool) → (l || s) ≡ s → ((a || (not d && l)) || s) ≡ (a || s)
      by true d l s e = refl
      by false true l s e = refl
      by false false l s e = e

  level_any : (xs : List Letter) → some_tail_in_level (some_tail passes) xs ≡ some_tail passes xs
  level_any [] = refl
  level_any (x ∷ xs) =
      ap (λ b. (passes (x ∷ xs) || some_tail passes xs) || (not (ends_level x) && b)) (level_any xs)
      ∙ by (passes (x ∷ xs)) (ends_level x) (some_tail passes xs)
    where
      by : (a d s : Bool) → ((a || s) || (not d && s)) ≡ (a || s)
      by true d s = refl
      by false d true = refl
      by false true false = refl
      by false false false = refl

  level_level : (xs : List Letter) → some_tail_in_level (some_tail_in_level passes) xs ≡ some_tail_in_level passes xs
  level_level [] = refl
  level_level (x ∷ xs) =
      ap (λ b. (passes (x ∷ xs) || (not (ends_level x) && some_tail_in_level passes xs)) || (not (ends_level x) && b)) (level_level xs)
      ∙ or_twice (passes (x ∷ xs)) (not (ends_level x) && some_tail_in_level passes xs)

-- ---- what is read of a pattern

pub token_at : (ps : List Token) (n : ℕ) → n < length ps → drop n ps ≡ get_or ps n Any ∷ drop (n + 1) ps
token_at ps n lt = rw add-one (drop-cons ps n Any lt)

after_front : (front a b : List Token) → letters_match a ≡ letters_match b → letters_match (front ++ a) ≡ letters_match (front ++ b)
after_front [] a b e = e
after_front (Any ∷ front) a b e = λ i letters. some_tail (after_front front a b e i) letters
after_front (AnyInLevel ∷ front) a b e = λ i letters. some_tail_in_level (after_front front a b e i) letters
after_front (Octet o ∷ front) a b e = λ i letters. first_is o (after_front front a b e i) letters

any_joins : (run : Run) (later : List Token) → letters_match (Any ∷ later) ≡ letters_match (run_tokens run ++ Any ∷ later)
any_joins Empty later = refl
any_joins InLevel later = λ i letters. sym (level_any (letters_match later) letters) i
any_joins Across later = λ i letters. sym (any_any (letters_match later) letters) i

pub adds_any : (old : List Token) (run : Run) → Adds old run Any old Across
adds_any old run later = after_front old (Any ∷ later) (run_tokens run ++ Any ∷ later) (any_joins run later)

pub adds_level_first : (old : List Token) → Adds old Empty AnyInLevel old InLevel
adds_level_first old later = refl

pub adds_level : (old : List Token) → Adds old InLevel AnyInLevel old InLevel
adds_level old later = after_front old (AnyInLevel ∷ later) (AnyInLevel ∷ AnyInLevel ∷ later) (λ i letters. sym (level_level (letters_match later) letters) i)

pub adds_level_across : (old : List Token) → Adds old Across AnyInLevel old Across
adds_level_across old later = after_front old (Any ∷ later) (Any ∷ AnyInLevel ∷ later) (λ i letters. sym (any_level (letters_match later) letters) i)

pub adds_octet : (old ended new : List Token) (run : Run) (o : ℕ) → Ends old run ended → new ≡ ended ++ Octet o ∷ [] → Adds old run (Octet o) new Empty
adds_octet old ended new run o e f later =
    ap letters_match (ap (λ z. z ++ later) (f ∙ ap (λ z. z ++ Octet o ∷ []) e) ∙ append_assoc (old ++ run_tokens run) (Octet o ∷ []) later ∙ append_assoc old (run_tokens run) (Octet o ∷ later))

-- ---- how many letters a match has

tail_length : (n : ℕ) (passes : List Letter → Bool) → ((xs : List Letter) → passes xs ≡ true → n ≤ length xs) → (xs : List Letter) → some_tail passes xs ≡ true → n ≤ length xs
tail_length n passes h [] e = h [] e
tail_length n passes h (x ∷ xs) e = by (passes (x ∷ xs)) refl (λ f. tail_length n passes h xs f)
  where
    by : (b : Bool) → passes (x ∷ xs) ≡ b → (some_tail passes xs ≡ true → n ≤ length xs) → n ≤ length (x ∷ xs)
    by true f later = h (x ∷ xs) f
    by false f later =
        let less : n ≤ length xs = later (ap (λ b. b || some_tail passes xs) (sym f) ∙ e) in
        omega arith

level_length : (n : ℕ) (passes : List Letter → Bool) → ((xs : List Letter) → passes xs ≡ true → n ≤ length xs) → (xs : List Letter) → some_tail_in_level passes xs ≡ true → n ≤ length xs
level_length n passes h xs e = tail_length n passes h xs (within (some_tail_in_level passes xs) (some_tail passes xs) (level_within passes xs) e)
  where
    within : (l s : Bool) → (l || s) ≡ s → l ≡ true → s ≡ true
    within true s f e = sym f
    within false s f e = cc

pub match_length : (pattern : List Token) (xs : List Letter) → letters_match pattern xs ≡ true → literals_of pattern ≤ length xs
match_length [] xs e = omega arith
match_length (Any ∷ more) xs e = let le : literals_of more ≤ length xs = tail_length (literals_of more) (letters_match more) (match_length more) xs e in omega arith
match_length (AnyInLevel ∷ more) xs e = let le : literals_of more ≤ length xs = level_length (literals_of more) (letters_match more) (match_length more) xs e in omega arith
match_length (Octet o ∷ more) [] e = cc
match_length (Octet o ∷ more) (x ∷ xs) e =
    let less : literals_of more ≤ length xs = match_length more xs (and_parts (is_letter o x) (letters_match more xs) e).1 in
    omega arith

too_few : (pattern : List Token) (xs : List Letter) → length xs < literals_of pattern → false ≡ letters_match pattern xs
too_few pattern xs lt = by (letters_match pattern xs) refl
  where
    by : (b : Bool) → letters_match pattern xs ≡ b → false ≡ b
    by true e = let le : literals_of pattern ≤ length xs = match_length pattern xs e in absurd (omega arith)
    by false e = refl

pub too_short : (pattern : List Token) (text : List ℕ) → length text < literals_of pattern → false ≡ is_match pattern text
too_short pattern text lt =
    let e : length (letters_of text) ≡ length text = ap length (letters_are text) ∙ length-lettered _ _ text in
    too_few pattern (letters_of text) (omega (arith, e))
