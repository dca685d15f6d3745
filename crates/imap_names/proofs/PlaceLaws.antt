-- The places from which a pattern matches, token by token.
use Rattle.std.proofs.Common.{◌≡◌, ◌≢◌, ℕ, zero, suc, ◌+◌, ◌-◌, ◌*◌, ◌/◌, ◌%◌, ◌^◌, ◌<◌, ◌≤◌, Bool, true, false, not, List, [], ◌∷◌, length, get_or, take, drop, refl, sym, ap, ◌∙◌, subst, arith}
use Rattle.std.specs.Prelude.{◌||◌, ◌&&◌, min, max, nat_eq, slice_set}
use Rattle.std.specs.Int.{bit_at}
use Rattle.std.specs.Int.RustNames.{bit_and, bit_or}
use Rattle.std.proofs.lemmas.Bool.Decides.{nat_tests}
use Rattle.std.proofs.lemmas.Bool.{eqb-true}
use Rattle.std.proofs.lemmas.Grind.{get_or-set_at}
use Rattle.std.proofs.lemmas.List.{drop_all, get_or-set_other, length-set}
use Rattle.std.proofs.lemmas.Nat.Bits.{bit_at-lt, bit_at-suc, bit_at_lowest, bit_at-zero, bit_at_and, bit_at_ones, bit_at_or, bit_at_above, shr_and_one}
use Rattle.imap_names.specs.declared.letters.Letter.{Letter}
use Rattle.imap_names.specs.declared.places.Masks.{Masks}
use Rattle.imap_names.specs.declared.token.Token.{Token}
use Rattle.imap_names.specs.declared.token.Token.TheVariants.{Any, AnyInLevel, Octet}
use Rattle.imap_names.specs.Letters.{blank}
use Rattle.imap_names.specs.MatchTest.{some_tail, some_tail_in_level, first_is, has_no_letter, letters_match}
use Rattle.imap_names.specs.Pattern.{is_letter, ends_level}
use Rattle.imap_names.specs.Places.{max_letters, bit_of, last_letters, letter_left, AreReached, flood, step_of, IsOfOctets, AreMasks, no_masks, AreAllMasks, AreAllReached, Steps}
use Rattle.imap_names.proofs.BitLaws.{low, flood_least, flood_next}
use Rattle.imap_names.proofs.CondensedLaws.{token_at}
use Rattle.imap_names.proofs.MarkLaws.{not_same}
use Rattle.imap_names.proofs.Spelling.{at_place}

-- ---- the last letters

last_none : (xs : List Letter) → last_letters 0 xs ≡ []
last_none xs = drop_all (length xs - 0) xs (omega arith)

last_more : (n : ℕ) (xs : List Letter) → suc n ≤ length xs → last_letters (suc n) xs ≡ letter_left (suc n) xs ∷ last_letters n xs
last_more n xs le =
    let e : length xs - suc n + 1 ≡ length xs - n = omega arith in
    at_place xs (length xs - suc n) (omega arith) ∙ ap (λ k. letter_left (suc n) xs ∷ drop k xs) e

last_all : (xs : List Letter) → last_letters (length xs) xs ≡ xs
last_all xs = let e : length xs - length xs ≡ 0 = omega arith in ap (λ k. drop k xs) e

-- ---- bits of tests

bit_of_or : (a b : Bool) → max (bit_of a) (bit_of b) ≡ bit_of (a || b)
bit_of_or true true = refl
bit_of_or true false = refl
bit_of_or false true = refl
bit_of_or false false = refl

bit_of_and : (a b : Bool) → min (bit_of a) (bit_of b) ≡ bit_of (a && b)
bit_of_and true true = refl
bit_of_and true false = refl
bit_of_and false true = refl
bit_of_and false false = refl

swapped : (a b : Bool) → min (bit_of a) (bit_of b) ≡ bit_of (b && a)
swapped true true = refl
swapped true false = refl
swapped false true = refl
swapped false false = refl

is_zero : (b : Bool) → 0 ≡ bit_of b → b ≡ false
is_zero true e = absurd (omega arith)
is_zero false e = refl

pub is_one : (b : Bool) → nat_eq (bit_of b) 1 ≡ b
is_one true = grind (arith, nat_tests)
is_one false = grind (arith, nat_tests)

max_none : (a : ℕ) → a < 2 → max a 0 ≡ a
max_none zero lt = refl
max_none (suc zero) lt = refl
max_none (suc (suc a)) lt = absurd (omega arith)

-- a carry has one bit
carry_first : (carry : ℕ) → carry < 2 → bit_at carry 0 ≡ carry
carry_first carry lt = let e : carry % 2 ≡ carry = omega arith in bit_at_lowest carry ∙ e

with_carry : (a carry n : ℕ) → carry < 2 → bit_at (bit_or a carry) (suc n) ≡ bit_at a (suc n)
with_carry a carry n lt =
    let small : carry < 2 ^ 1 = lt in
    bit_at_or a carry (suc n) ∙ ap (λ b. max (bit_at a (suc n)) b) (bit_at_above carry 1 (suc n) small (omega arith))
    ∙ max_none (bit_at a (suc n)) (bit_at-lt a (suc n))

-- the pattern matches at the first place of a word by what the word before it found
pub record IsCarry (pattern : List Token) (letters : List Letter) (base carry : ℕ) : Type 0 where
  pub bit : carry < 2
  pub first : base ≡ 0 → carry ≡ 0
  pub later : 0 < base → base ≤ length letters → carry ≡ bit_of (letters_match pattern (last_letters base letters))

further_on : (base n : ℕ) (xs : List Letter) → base + suc n ≤ length xs → last_letters (base + suc n) xs ≡ letter_left (base + suc n) xs ∷ last_letters (base + n) xs
further_on base n xs le =
    let e : base + suc n ≡ suc (base + n) = omega arith in
    ap (λ k. last_letters k xs) e ∙ last_more (base + n) xs (omega arith) ∙ ap (λ k. letter_left k xs ∷ last_letters (base + n) xs) (sym e)

-- ---- wildcards

module _ (P F : List Letter → Bool) (g : Letter → Bool) (none : F [] ≡ P []) (more : (x : Letter) (xs : List Letter) → F (x ∷ xs) ≡ (P (x ∷ xs) || (g x && F xs))) (xs : List Letter) where
  absorbs : (ys : List Letter) → (P ys || F ys) ≡ F ys
  absorbs [] = ap (λ b. P [] || b) none ∙ by (P []) ∙ sym none
    where
      by : (a : Bool) → (a || a) ≡ a
      by true = refl
      by false = refl
  absorbs (y ∷ ys) = ap (λ b. P (y ∷ ys) || b) (more y ys) ∙ by (P (y ∷ ys)) (g y && F ys) ∙ sym (more y ys)
    where
      by : (a b : Bool) → (a || (a || b)) ≡ (a || b)
      by true b = refl
      by false b = refl

  first_place : (base places carry : ℕ) → (base ≡ 0 → carry ≡ 0) → (0 < base → base ≤ length xs → carry ≡ bit_of (F (last_letters base xs))) → base ≤ length xs → bit_at places 0 ≡ bit_of (P (last_letters base xs)) → max (bit_at places 0) carry ≡ bit_of (F (last_letters base xs))
  first_place zero places carry first later le h =
      (λ i. max (h i) (first refl i)) ∙ max_bit (P (last_letters 0 xs)) ∙ ap (λ z. bit_of (P z)) (last_none xs) ∙ sym (ap bit_of none) ∙ sym (ap (λ z. bit_of (F z)) (last_none xs))
    where
      max_bit : (b : Bool) → max (bit_of b) 0 ≡ bit_of b
      max_bit true = refl
      max_bit false = refl
  first_place (suc base) places carry first later le h =
      (λ i. max (h i) (later (omega arith) le i)) ∙ bit_of_or (P (last_letters (suc base) xs)) (F (last_letters (suc base) xs)) ∙ ap bit_of (absorbs (last_letters (suc base) xs))

  floods : (base places carry through : ℕ) → carry < 2 → ((n : ℕ) → 0 < n → n ≤ 62 → base + n ≤ length xs → bit_at through n ≡ bit_of (g (letter_left (base + n) xs))) → (base ≡ 0 → carry ≡ 0) → (0 < base → base ≤ length xs → carry ≡ bit_of (F (last_letters base xs))) → ((n : ℕ) → n ≤ 62 → base + n ≤ length xs → bit_at places n ≡ bit_of (P (last_letters (base + n) xs))) → (n : ℕ) → n ≤ 62 → base + n ≤ length xs → bit_at (flood (bit_or places carry) through) n ≡ bit_of (F (last_letters (base + n) xs))
  floods base places carry through bit lets first later h zero short le =
      let e : base + 0 ≡ base = omega arith in
      flood_least (bit_or places carry) through ∙ bit_at_or places carry 0 ∙ ap (λ b. max (bit_at places 0) b) (carry_first carry bit)
      ∙ first_place base places carry first later (omega arith) (h 0 short le ∙ ap (λ k. bit_of (P (last_letters k xs))) e)
      ∙ ap (λ k. bit_of (F (last_letters k xs))) (sym e)
  floods base places carry through bit lets first later h (suc n) short le =
      let x : Letter = letter_left (base + suc n) xs in
      let ys : List Letter = last_letters (base + n) xs in
      let here : last_letters (base + suc n) xs ≡ x ∷ ys = further_on base n xs le in
      let before : bit_at (flood (bit_or places carry) through) n ≡ bit_of (F ys) = floods base places carry through bit lets first later h n (omega arith) (omega arith) in
      let from_rest : bit_at (bit_or places carry) (suc n) ≡ bit_of (P (x ∷ ys)) = with_carry places carry n bit ∙ h (suc n) short le ∙ ap (λ z. bit_of (P z)) here in
      flood_next (bit_or places carry) through n (omega arith)
      ∙ (λ i. max (from_rest i) (min (lets (suc n) (omega arith) short le i) (before i)))
      ∙ ap (λ z. max (bit_of (P (x ∷ ys))) z) (bit_of_and (g x) (F ys))
      ∙ bit_of_or (P (x ∷ ys)) (g x && F ys)
      ∙ sym (ap bit_of (more x ys)) ∙ sym (ap (λ z. bit_of (F z)) here)

  nowhere : ((n : ℕ) → n ≤ length xs → P (last_letters n xs) ≡ false) → (n : ℕ) → n ≤ length xs → F (last_letters n xs) ≡ false
  nowhere h zero le = ap F (last_none xs) ∙ none ∙ sym (ap P (last_none xs)) ∙ h 0 le
  nowhere h (suc n) le =
      let x : Letter = letter_left (suc n) xs in
      let here : last_letters (suc n) xs ≡ x ∷ last_letters n xs = last_more n xs le in
      let before : F (last_letters n xs) ≡ false = nowhere h n (omega arith) in
      ap F here ∙ more x (last_letters n xs) ∙ (λ i. (sym (ap P here) ∙ h (suc n) le) i || (g x && before i)) ∙ by (g x)
    where
      by : (b : Bool) → (false || (b && false)) ≡ false
      by true = refl
      by false = refl

abbrev always : Letter → Bool
always x = true

-- ---- octets

shifted : (places n : ℕ) → n < 64 → bit_at (places * 2 ^ 1 % 2 ^ 64) n ≡ bit_at (places * 2) n
shifted places n lt = low (places * 2 ^ 1) n lt

octet_step : (o : ℕ) (P : List Letter → Bool) (xs : List Letter) (base places carry mask : ℕ) → carry < 2 → ((n : ℕ) → 0 < n → n ≤ 62 → base + n ≤ length xs → bit_at mask n ≡ bit_of (is_letter o (letter_left (base + n) xs))) → (base ≡ 0 → carry ≡ 0) → (0 < base → base ≤ length xs → carry ≡ bit_of (first_is o P (last_letters base xs))) → ((n : ℕ) → n ≤ 62 → base + n ≤ length xs → bit_at places n ≡ bit_of (P (last_letters (base + n) xs))) → (n : ℕ) → n ≤ 62 → base + n ≤ length xs → bit_at (bit_or (bit_and (places * 2 ^ 1 % 2 ^ 64) mask) carry) n ≡ bit_of (first_is o P (last_letters (base + n) xs))
octet_step o P xs base places carry mask bit is first later h zero short le =
    let even : places * 2 % 2 ≡ 0 = omega arith in
    let e : base + 0 ≡ base = omega arith in
    let nothing : bit_at (bit_and (places * 2 ^ 1 % 2 ^ 64) mask) 0 ≡ 0 =
    bit_at_and (places * 2 ^ 1 % 2 ^ 64) mask 0
    ∙ ap (λ z. min z (bit_at mask 0)) (shifted places 0 (omega arith) ∙ bit_at_lowest (places * 2) ∙ even)
    ∙ by (bit_at mask 0) (bit_at-lt mask 0) in
    bit_at_or (bit_and (places * 2 ^ 1 % 2 ^ 64) mask) carry 0 ∙ (λ i. max (nothing i) (carry_first carry bit i)) ∙ none_or carry bit
    ∙ at_first base first later (omega arith) ∙ ap (λ k. bit_of (first_is o P (last_letters k xs))) (sym e)
  where
    by : (n : ℕ) → n < 2 → min 0 n ≡ 0
    by zero lt = refl
    by (suc zero) lt = refl
    by (suc (suc n)) lt = absurd (omega arith)

    none_or : (n : ℕ) → n < 2 → max 0 n ≡ n
    none_or zero lt = refl
    none_or (suc zero) lt = refl
    none_or (suc (suc n)) lt = absurd (omega arith)

    at_first : (b : ℕ) → (b ≡ 0 → carry ≡ 0) → (0 < b → b ≤ length xs → carry ≡ bit_of (first_is o P (last_letters b xs))) → b ≤ length xs → carry ≡ bit_of (first_is o P (last_letters b xs))
    at_first zero f l within = f refl ∙ sym (ap (λ z. bit_of (first_is o P z)) (last_none xs))
    at_first (suc b) f l within = l (omega arith) within
octet_step o P xs base places carry mask bit is first later h (suc n) short le =
    let x : Letter = letter_left (base + suc n) xs in
    let ys : List Letter = last_letters (base + n) xs in
    let back : places * 2 / 2 ≡ places = omega arith in
    let rest : bit_at (places * 2 ^ 1 % 2 ^ 64) (suc n) ≡ bit_of (P ys) =
    shifted places (suc n) (omega arith) ∙ bit_at-suc (places * 2) n ∙ ap (λ z. bit_at z n) back ∙ h n (omega arith) (omega arith) in
    with_carry (bit_and (places * 2 ^ 1 % 2 ^ 64) mask) carry n bit
    ∙ bit_at_and (places * 2 ^ 1 % 2 ^ 64) mask (suc n)
    ∙ (λ i. min (rest i) (is (suc n) (omega arith) short le i))
    ∙ swapped (P ys) (is_letter o x) ∙ sym (ap (λ z. bit_of (first_is o P z)) (further_on base n xs le))

octet_nowhere : (o : ℕ) (P : List Letter → Bool) (xs : List Letter) → ((n : ℕ) → n ≤ length xs → P (last_letters n xs) ≡ false) → (n : ℕ) → n ≤ length xs → first_is o P (last_letters n xs) ≡ false
octet_nowhere o P xs h zero le = ap (first_is o P) (last_none xs)
octet_nowhere o P xs h (suc n) le =
    let x : Letter = letter_left (suc n) xs in
    ap (first_is o P) (last_more n xs le) ∙ ap (λ b. is_letter o x && b) (h n (omega arith)) ∙ by (is_letter o x)
  where
    by : (b : Bool) → (b && false) ≡ false
    by true = refl
    by false = refl

-- ---- tokens

pub reached_step : (t : Token) (ps : List Token) (xs : List Letter) (base places carry : ℕ) (masks : Masks) → IsOfOctets t → AreMasks xs base masks → IsCarry (t ∷ ps) xs base carry → AreReached ps xs base places → AreReached (t ∷ ps) xs base (step_of t places carry masks)
reached_step Any ps xs base places carry masks byte m k h =
    floods (letters_match ps) (some_tail (letters_match ps)) always refl (λ y ys. refl) xs base places carry (2 ^ 64 - 1) k.bit (λ n lt short le. bit_at_ones 64 n (omega arith)) k.first k.later h
reached_step AnyInLevel ps xs base places carry masks byte m k h =
    floods (letters_match ps) (some_tail_in_level (letters_match ps)) (λ y. not (ends_level y)) refl (λ y ys. refl) xs base places carry masks.inner k.bit m.inner k.first k.later h
reached_step (Octet o) ps xs base places carry masks byte m k h =
    octet_step o (letters_match ps) xs base places carry (get_or masks.octets o 0) k.bit (λ n. m.octets o n byte) k.first k.later h

abbrev Nowhere : List Token → List Letter → Type 0
Nowhere ps xs = (n : ℕ) → n ≤ length xs → letters_match ps (last_letters n xs) ≡ false

nowhere_step : (t : Token) (ps : List Token) (xs : List Letter) → Nowhere ps xs → Nowhere (t ∷ ps) xs
nowhere_step Any ps xs h = nowhere (letters_match ps) (some_tail (letters_match ps)) always refl (λ y ys. refl) xs h
nowhere_step AnyInLevel ps xs h = nowhere (letters_match ps) (some_tail_in_level (letters_match ps)) (λ y. not (ends_level y)) refl (λ y ys. refl) xs h
nowhere_step (Octet o) ps xs h = octet_nowhere o (letters_match ps) xs h

nowhere_before : (n : ℕ) (ps : List Token) (xs : List Letter) → Nowhere (drop n ps) xs → Nowhere ps xs
nowhere_before zero ps xs h = h
nowhere_before (suc n) [] xs h = h
nowhere_before (suc n) (p ∷ ps) xs h = nowhere_step p ps xs (nowhere_before n ps xs h)

token_back : (n : ℕ) (ps : List Token) → 0 < n → n ≤ length ps → drop (n - 1) ps ≡ get_or ps (n - 1) Any ∷ drop n ps
token_back n ps some le =
    let one : n - 1 + 1 ≡ n = omega arith in
    token_at ps (n - 1) (omega arith) ∙ ap (λ k. get_or ps (n - 1) Any ∷ drop k ps) one

-- ---- one word

pub no_carry : (ps : List Token) (xs : List Letter) → IsCarry ps xs 0 0
no_carry ps xs = record { bit = omega arith; first = λ e. refl; later = λ lt le. absurd (omega arith) }

all_reached : (xs : List Letter) → AreReached [] xs 0 1
all_reached xs zero short le = sym (ap (λ z. bit_of (has_no_letter z)) (last_none xs))
all_reached xs (suc n) short le =
    bit_at-suc 1 n ∙ bit_at-zero n ∙ sym (ap (λ z. bit_of (has_no_letter z)) (further_on 0 n xs le))

at_end : (ps : List Token) (xs : List Letter) (base places : ℕ) → AreReached [] xs base places → AreReached (drop (length ps) ps) xs base places
at_end ps xs base places h = subst (λ (z : List Token). AreReached z xs base places) (sym (drop_all (length ps) ps (omega arith))) h

pub starts : (ps : List Token) (xs : List Letter) → AreReached (drop (length ps) ps) xs 0 1
starts ps xs = at_end ps xs 0 1 (all_reached xs)

pub goes_back : (n : ℕ) (ps : List Token) (xs : List Letter) (places : ℕ) (masks : Masks) → 0 < n → n ≤ length ps → IsOfOctets (get_or ps (n - 1) Any) → AreMasks xs 0 masks → AreReached (drop n ps) xs 0 places → AreReached (drop (n - 1) ps) xs 0 (step_of (get_or ps (n - 1) Any) places 0 masks)
goes_back n ps xs places masks some le byte m h =
    subst (λ (z : List Token). AreReached z xs 0 (step_of (get_or ps (n - 1) Any) places 0 masks)) (sym (token_back n ps some le))
    (reached_step (get_or ps (n - 1) Any) (drop n ps) xs 0 places 0 masks byte m (no_carry (get_or ps (n - 1) Any ∷ drop n ps) xs) h)

-- where no place is left, the whole pattern doesn't match
pub none_left : (n : ℕ) (ps : List Token) (xs : List Letter) (places : ℕ) → length xs ≤ 62 → places ≡ 0 → AreReached (drop n ps) xs 0 places → false ≡ letters_match ps xs
none_left n ps xs places short e h =
    sym (nowhere_before n ps xs nowhere_here (length xs) (omega arith)) ∙ ap (letters_match ps) (last_all xs)
  where
    nowhere_here : (k : ℕ) → k ≤ length xs → letters_match (drop n ps) (last_letters k xs) ≡ false
    nowhere_here k le =
        let same : 0 + k ≡ k = omega arith in
        is_zero (letters_match (drop n ps) (last_letters k xs))
        (sym (ap (λ z. bit_at z k) e ∙ bit_at-zero k) ∙ h k (omega arith) (omega arith) ∙ ap (λ j. bit_of (letters_match (drop n ps) (last_letters j xs))) same)

at_place_of : (ps : List Token) (xs : List Letter) (base places n : ℕ) → n ≤ 62 → base + n ≡ length xs → AreReached ps xs base places → nat_eq (bit_and (places / 2 ^ n) 1) 1 ≡ letters_match ps xs
at_place_of ps xs base places n short e h =
    ap (λ z. nat_eq z 1) (shr_and_one places n ∙ h n short (omega (arith, e)) ∙ ap (λ k. bit_of (letters_match ps (last_letters k xs))) e ∙ ap (λ z. bit_of (letters_match ps z)) (last_all xs))
    ∙ is_one (letters_match ps xs)

pub reached : (ps : List Token) (xs : List Letter) (places : ℕ) → length xs ≤ 62 → AreReached ps xs 0 places → nat_eq (bit_and (places / 2 ^ length xs) 1) 1 ≡ letters_match ps xs
reached ps xs places short h = at_place_of ps xs 0 places (length xs) short (omega arith) h

-- ---- all words

pub all_start : (ps : List Token) (xs : List Letter) → AreAllReached (drop (length ps) ps) xs (1 ∷ 0 ∷ 0 ∷ 0 ∷ 0 ∷ 0 ∷ [])
all_start ps xs word lt = at_end ps xs (62 * word) _ (by word lt)
  where
    none : (base : ℕ) → 0 < base → AreReached [] xs base 0
    none base some n short le =
        let e : base + n ≡ suc (base + n - 1) = omega arith in
        bit_at-zero n ∙ sym (ap (λ k. bit_of (has_no_letter (last_letters k xs))) e ∙ ap (λ z. bit_of (has_no_letter z)) (last_more (base + n - 1) xs (omega arith)))

    by : (w : ℕ) → w < 6 → AreReached [] xs (62 * w) (get_or (1 ∷ 0 ∷ 0 ∷ 0 ∷ 0 ∷ 0 ∷ []) w 0)
    by zero l = all_reached xs
    by (suc zero) l = none 62 (omega arith)
    by (suc (suc zero)) l = none 124 (omega arith)
    by (suc (suc (suc zero))) l = none 186 (omega arith)
    by (suc (suc (suc (suc zero)))) l = none 248 (omega arith)
    by (suc (suc (suc (suc (suc zero))))) l = none 310 (omega arith)
    by (suc (suc (suc (suc (suc (suc w)))))) l = absurd (omega arith)

pub all_go_back : (n : ℕ) (ps : List Token) (xs : List Letter) (old new : List ℕ) → 0 < n → n ≤ length ps → Steps (get_or ps (n - 1) Any) xs old new → AreAllReached (drop n ps) xs old → AreAllReached (drop (n - 1) ps) xs new
all_go_back n ps xs old new some le steps h = subst (λ (z : List Token). AreAllReached z xs new) (sym (token_back n ps some le)) (steps (drop n ps) h)

pub all_reached_at : (ps : List Token) (xs : List Letter) (words : List ℕ) → length xs ≤ 371 → AreAllReached ps xs words → nat_eq (bit_and (get_or words (length xs / 62) 0 / 2 ^ (length xs % 62)) 1) 1 ≡ letters_match ps xs
all_reached_at ps xs words short h =
    at_place_of ps xs (62 * (length xs / 62)) (get_or words (length xs / 62) 0) (length xs % 62) (omega arith) (omega arith) (h (length xs / 62) (omega arith))

-- what a pass over the words keeps
pub record Passed (token : Token) (letters : List Letter) (old words : List ℕ) (word carry : ℕ) : Type 0 where
  pub len : length words ≡ 6
  pub within : word ≤ 6
  pub left : (w : ℕ) → word ≤ w → get_or words w 0 ≡ get_or old w 0
  pub done : (rest : List Token) → AreAllReached rest letters old → (w : ℕ) → w < word → AreReached (token ∷ rest) letters (62 * w) (get_or words w 0)
  pub carries : (rest : List Token) → AreAllReached rest letters old → IsCarry (token ∷ rest) letters (62 * word) carry

pub passed_none : (t : Token) (xs : List Letter) (words : List ℕ) → length words ≡ 6 → Passed t xs words words 0 0
passed_none t xs words len = record {
  len = len;
  within = omega arith;
  left = λ w le. refl;
  done = λ rest h w lt. absurd (omega arith);
  carries = λ rest h. no_carry (t ∷ rest) xs;
}

pub passed_all : (t : Token) (xs : List Letter) (old words : List ℕ) (word carry : ℕ) → length xs < 62 * word → Passed t xs old words word carry → Steps t xs old words
passed_all t xs old words word carry end p rest h w lt n short in_text = by (word - w) refl
  where
    by : (d : ℕ) → word - w ≡ d → bit_at (get_or words w 0) n ≡ bit_of (letters_match (t ∷ rest) (last_letters (62 * w + n) xs))
    by zero e = absurd (omega arith)
    by (suc d) e = p.done rest h w (omega arith) n short in_text

module _ (t : Token) (xs : List Letter) (old words : List ℕ) (masks : Masks) (word carry : ℕ) (p : Passed t xs old words word carry) (lt : word < 6) (byte : IsOfOctets t) (m : AreMasks xs (62 * word) masks) where
  abbrev next : ℕ
  next = step_of t (get_or words word 0) carry masks

  here : (rest : List Token) → AreAllReached rest xs old → AreReached (t ∷ rest) xs (62 * word) next
  here rest h = reached_step t rest xs (62 * word) (get_or words word 0) carry masks byte m (p.carries rest h)
      (subst (AreReached rest xs (62 * word)) (sym (p.left word (omega arith))) (h word lt))

  read : (w : ℕ) → w ≢ word → get_or (slice_set words word next) w 0 ≡ get_or words w 0
  read w other = get_or-set_other words word w next 0 other

  abbrev carried : ℕ
  carried = bit_and (next / 2 ^ 62) 1

  pub passed_more : Passed t xs old (slice_set words word next) (word + 1) carried
  passed_more = record {
    len = length-set words word next ∙ p.len;
    within = omega arith;
    left = λ w le. read w (omega arith) ∙ p.left w (omega arith);
    done = λ rest h w less. by rest h w less (nat_eq w word) refl;
    carries = λ rest h. record {
      bit = subst (λ k. k < 2) (sym (shr_and_one next 62)) (bit_at-lt next 62);
      first = λ e. absurd (omega arith);
      later = λ some le. later rest h le;
    };
  }
    where
      by : (rest : List Token) → AreAllReached rest xs old → (w : ℕ) → w < word + 1 → (b : Bool) → nat_eq w word ≡ b → AreReached (t ∷ rest) xs (62 * w) (get_or (slice_set words word next) w 0)
      by rest h w less true e =
          let same : w ≡ word = eqb-true w word e in
          let in_words : word < length words = omega (arith, p.len) in
          subst (AreReached (t ∷ rest) xs (62 * w)) (sym (get_or-set_at words word w next 0 same in_words))
          (subst (λ k. AreReached (t ∷ rest) xs (62 * k) next) (sym same) (here rest h))
      by rest h w less false e =
          let other : w ≢ word = not_same w word e in
          subst (AreReached (t ∷ rest) xs (62 * w)) (sym (read w other)) (p.done rest h w (omega arith))

      later : (rest : List Token) → AreAllReached rest xs old → 62 * (word + 1) ≤ length xs → carried ≡ bit_of (letters_match (t ∷ rest) (last_letters (62 * (word + 1)) xs))
      later rest h le =
          let e : 62 * word + 62 ≡ 62 * (word + 1) = omega arith in
          shr_and_one next 62 ∙ here rest h 62 (omega arith) (omega arith) ∙ ap (λ k. bit_of (letters_match (t ∷ rest) (last_letters k xs))) e

  pub passed_on : (result : ℕ) → result ≡ next → Passed t xs old (slice_set words word result) (word + 1) (bit_and (get_or (slice_set words word result) word 0 / 2 ^ 62) 1)
  passed_on result e =
      let in_words : word < length words = omega (arith, p.len) in
      subst (λ r. Passed t xs old (slice_set words word r) (word + 1) (bit_and (get_or (slice_set words word r) word 0 / 2 ^ 62) 1)) (sym e)
      (subst (λ k. Passed t xs old (slice_set words word next) (word + 1) (bit_and (k / 2 ^ 62) 1)) (sym (get_or-set_at words word word next 0 refl in_words)) passed_more)

pub all_masks : (xs : List Letter) (a b c d e f : Masks) → AreMasks xs 0 a → AreMasks xs 62 b → AreMasks xs 124 c → AreMasks xs 186 d → AreMasks xs 248 e → AreMasks xs 310 f → AreAllMasks xs (a ∷ b ∷ c ∷ d ∷ e ∷ f ∷ [])
all_masks xs a b c d e f ma mb mc md me mf word lt = by word lt
  where
    by : (w : ℕ) → w < 6 → AreMasks xs (62 * w) (get_or (a ∷ b ∷ c ∷ d ∷ e ∷ f ∷ []) w no_masks)
    by zero l = ma
    by (suc zero) l = mb
    by (suc (suc zero)) l = mc
    by (suc (suc (suc zero))) l = md
    by (suc (suc (suc (suc zero)))) l = me
    by (suc (suc (suc (suc (suc zero))))) l = mf
    by (suc (suc (suc (suc (suc (suc w)))))) l = absurd (omega arith)
