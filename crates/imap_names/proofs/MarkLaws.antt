-- The marks of octets at the places before their letters.
use Rattle.std.proofs.Common.{◌≡◌, ◌≢◌, ℕ, zero, suc, ◌+◌, ◌-◌, ◌*◌, ◌%◌, ◌^◌, ◌<◌, ◌≤◌, Bool, true, false, not, List, [], ◌∷◌, length, get_or, replicate, refl, sym, ap, ◌∙◌, subst, arith}
use Rattle.std.specs.Prelude.{◌||◌, ◌&&◌, ◌==◌, max, nat_le, nat_lt, nat_eq, slice_set}
use Rattle.std.specs.Char.{to_ascii_lowercase, to_ascii_uppercase}
use Rattle.std.specs.Int.{bit_at}
use Rattle.std.specs.Int.RustNames.{bit_or}
use Rattle.std.proofs.lemmas.Bool.{eqb-true, cond-true, cond-false}
use Rattle.std.proofs.lemmas.Bool.Decides.{nat_tests}
use Rattle.std.proofs.lemmas.Grind.{get_or-set_at}
use Rattle.std.proofs.lemmas.List.{get_or-set_other, get_or-replicate}
use Rattle.std.proofs.lemmas.Nat.{one_shl}
use Rattle.std.proofs.lemmas.Nat.Bits.{bit_at-lt, bit_at-zero, bit_at_or, bit_at-pow_same, bit_at-pow_other}
use Rattle.imap_names.specs.declared.letters.Letter.{Letter}
use Rattle.imap_names.specs.declared.places.Masks.{Masks}
use Rattle.imap_names.specs.Pattern.{is_letter, ends_level}
use Rattle.imap_names.specs.Places.{bit_of, letter_left, is_mark, AreMarks, AddsMark, AddsLetter, is_inner, IsInner, AreMasks}

pub not_same : (a b : ℕ) → nat_eq a b ≡ false → a ≢ b
not_same a b e f = let t : nat_eq a b ≡ true = grind (arith, nat_tests) in cc

or_nothing : (b : Bool) → (b || false) ≡ b
or_nothing true = refl
or_nothing false = refl

and_nothing : (b : Bool) → (b && false) ≡ false
and_nothing true = refl
and_nothing false = refl

and_all : (b : Bool) → (b && true) ≡ b
and_all true = refl
and_all false = refl

max_none : (a : ℕ) → a < 2 → max a 0 ≡ a
max_none zero lt = refl
max_none (suc zero) lt = refl
max_none (suc (suc a)) lt = absurd (omega arith)

max_of : (a b : Bool) → max (bit_of a) (bit_of b) ≡ bit_of (a || b)
max_of true true = refl
max_of true false = refl
max_of false true = refl
max_of false false = refl

power_bit : (n m : ℕ) → n ≤ 62 → bit_at (1 * 2 ^ n % 2 ^ 64) m ≡ bit_of (nat_eq m n)
power_bit n m le = ap (λ k. bit_at k m) (one_shl n 64 (omega arith)) ∙ by (nat_eq m n) refl
  where
    by : (b : Bool) → nat_eq m n ≡ b → bit_at (2 ^ n) m ≡ bit_of (nat_eq m n)
    by true e = ap (bit_at (2 ^ n)) (eqb-true m n e) ∙ bit_at-pow_same n ∙ sym (ap bit_of e)
    by false e = bit_at-pow_other n m (not_same m n e) ∙ sym (ap bit_of e)

-- ---- one octet

pub adds_mark : (old : List ℕ) (octet n : ℕ) → octet < length old → n ≤ 62 → AddsMark old octet n (slice_set old octet (bit_or (get_or old octet 0) (1 * 2 ^ n % 2 ^ 64)))
adds_mark old octet n within le other m byte = by (nat_eq other octet) refl
  where
    new : ℕ
    new = bit_or (get_or old octet 0) (1 * 2 ^ n % 2 ^ 64)

    by : (b : Bool) → nat_eq other octet ≡ b → bit_at (get_or (slice_set old octet new) other 0) m ≡ max (bit_at (get_or old other 0) m) (bit_of (nat_eq m n && nat_eq other octet))
    by true e =
        let same : other ≡ octet = eqb-true other octet e in
        ap (λ k. bit_at k m) (get_or-set_at old octet other new 0 same within)
        ∙ bit_at_or (get_or old octet 0) (1 * 2 ^ n % 2 ^ 64) m
        ∙ (λ i. max (bit_at (get_or old (sym same i) 0) m) (power_bit n m le i))
        ∙ ap (λ b. max (bit_at (get_or old other 0) m) (bit_of b)) (sym (and_all (nat_eq m n)) ∙ ap (λ b. nat_eq m n && b) (sym e))
    by false e =
        ap (λ k. bit_at k m) (get_or-set_other old octet other new 0 (not_same other octet e))
        ∙ sym (max_none (bit_at (get_or old other 0) m) (bit_at-lt (get_or old other 0) m))
        ∙ ap (λ b. max (bit_at (get_or old other 0) m) (bit_of b)) (sym (and_nothing (nat_eq m n)) ∙ ap (λ b. nat_eq m n && b) (sym e))

-- ---- one letter

either_case : (o x : ℕ) → (nat_eq o (to_ascii_lowercase x) || nat_eq o (to_ascii_uppercase x)) ≡ nat_eq (to_ascii_lowercase o) (to_ascii_lowercase x)
either_case o x = grind (arith, nat_tests)

both : (a : ℕ) (p q r : Bool) → a < 2 → max (max a (bit_of (p && q))) (bit_of (p && r)) ≡ max a (bit_of (p && (q || r)))
both (suc (suc a)) p q r lt = absurd (omega arith)
both zero false q r lt = refl
both (suc zero) false q r lt = refl
both zero true true true lt = refl
both zero true true false lt = refl
both zero true false true lt = refl
both zero true false false lt = refl
both (suc zero) true true true lt = refl
both (suc zero) true true false lt = refl
both (suc zero) true false true lt = refl
both (suc zero) true false false lt = refl

pub adds_any_case : (old between new : List ℕ) (x : Letter) (n : ℕ) → x.any_case ≡ true → AddsMark old (to_ascii_lowercase x.octet) n between → AddsMark between (to_ascii_uppercase x.octet) n new → AddsLetter old x n new
adds_any_case old between new x n any f g o m byte =
    g o m byte ∙ ap (λ a. max a (bit_of (nat_eq m n && nat_eq o (to_ascii_uppercase x.octet)))) (f o m byte)
    ∙ both (bit_at (get_or old o 0) m) (nat_eq m n) (nat_eq o (to_ascii_lowercase x.octet)) (nat_eq o (to_ascii_uppercase x.octet)) (bit_at-lt (get_or old o 0) m)
    ∙ ap (λ b. max (bit_at (get_or old o 0) m) (bit_of (nat_eq m n && b))) (either_case o x.octet ∙ sym (cond-true _ _ _ any))

pub adds_exact : (old new : List ℕ) (x : Letter) (n : ℕ) → x.any_case ≡ false → AddsMark old x.octet n new → AddsLetter old x n new
adds_exact old new x n exact f o m byte =
    f o m byte ∙ ap (λ b. max (bit_at (get_or old o 0) m) (bit_of (nat_eq m n && b))) (sym (cond-false _ _ _ exact))

-- ---- all letters

-- what holds of the last `count`, and of the one before them
further : (g : ℕ → Bool) (count m : ℕ) → (nat_lt 0 m && (nat_le m (count + 1) && g m)) ≡ ((nat_lt 0 m && (nat_le m count && g m)) || (nat_eq m (count + 1) && g (count + 1)))
further g count m = by (nat_eq m (count + 1)) refl
  where
    by : (b : Bool) → nat_eq m (count + 1) ≡ b → (nat_lt 0 m && (nat_le m (count + 1) && g m)) ≡ ((nat_lt 0 m && (nat_le m count && g m)) || (nat_eq m (count + 1) && g (count + 1)))
    by true e =
        let same : m ≡ count + 1 = eqb-true m (count + 1) e in
        let some : nat_lt 0 m ≡ true = grind (arith, nat_tests) in
        let within : nat_le m (count + 1) ≡ true = grind (arith, nat_tests) in
        let past : nat_le m count ≡ false = grind (arith, nat_tests) in
        (λ i. some i && (within i && g (same i))) ∙ (λ i. (sym some i && (sym past i && g m)) || (sym e i && g (count + 1)))
    by false e =
        let other : m ≢ count + 1 = not_same m (count + 1) e in
        let within : nat_le m (count + 1) ≡ nat_le m count = grind (arith, nat_tests) in
        (λ i. nat_lt 0 m && (within i && g m)) ∙ sym (or_nothing (nat_lt 0 m && (nat_le m count && g m)))
        ∙ (λ i. (nat_lt 0 m && (nat_le m count && g m)) || (sym e i && g (count + 1)))

none_yet : (g : ℕ → Bool) (m : ℕ) → (nat_lt 0 m && (nat_le m 0 && g m)) ≡ false
none_yet g zero = let e : nat_lt 0 0 ≡ false = grind (arith, nat_tests) in ap (λ b. b && (nat_le 0 0 && g 0)) e
none_yet g (suc m) =
    let e : nat_le (suc m) 0 ≡ false = grind (arith, nat_tests) in
    ap (λ b. nat_lt 0 (suc m) && (b && g (suc m))) e ∙ and_nothing (nat_lt 0 (suc m))

pub marks_more : (xs : List Letter) (base count : ℕ) (old new : List ℕ) → AreMarks xs base count old → AddsLetter old (letter_left (base + (count + 1)) xs) (count + 1) new → AreMarks xs base (count + 1) new
marks_more xs base count old new h f o m byte =
    let x : Letter = letter_left (base + (count + 1)) xs in
    f o m byte ∙ ap (λ a. max a (bit_of (nat_eq m (count + 1) && is_letter o x))) (h o m byte)
    ∙ max_of (is_mark o base count xs m) (nat_eq m (count + 1) && is_letter o x)
    ∙ ap bit_of (sym (further (λ k. is_letter o (letter_left (base + k) xs)) count m))

pub no_marks : (xs : List Letter) (base : ℕ) → AreMarks xs base 0 (replicate 256 0)
no_marks xs base o m byte =
    ap (λ k. bit_at k m) (get_or-replicate 256 o 0 0 byte) ∙ bit_at-zero m ∙ ap bit_of (sym (none_yet (λ k. is_letter o (letter_left (base + k) xs)) m))

pub no_inner : (xs : List Letter) (base : ℕ) → IsInner xs base 0 0
no_inner xs base m = bit_at-zero m ∙ ap bit_of (sym (none_yet (λ k. not (ends_level (letter_left (base + k) xs))) m))

pub inner_more : (xs : List Letter) (base count inner : ℕ) → count + 1 ≤ 62 → IsInner xs base count inner → ends_level (letter_left (base + (count + 1)) xs) ≡ false → IsInner xs base (count + 1) (bit_or inner (1 * 2 ^ (count + 1) % 2 ^ 64))
inner_more xs base count inner le h plain m =
    bit_at_or inner (1 * 2 ^ (count + 1) % 2 ^ 64) m ∙ (λ i. max (h m i) (power_bit (count + 1) m le i))
    ∙ max_of (is_inner base count xs m) (nat_eq m (count + 1))
    ∙ ap bit_of (ap (λ b. is_inner base count xs m || b) (sym (and_all (nat_eq m (count + 1))) ∙ ap (λ b. nat_eq m (count + 1) && not b) (sym plain))
    ∙ sym (further (λ k. not (ends_level (letter_left (base + k) xs))) count m))

pub inner_less : (xs : List Letter) (base count inner : ℕ) → IsInner xs base count inner → ends_level (letter_left (base + (count + 1)) xs) ≡ true → IsInner xs base (count + 1) inner
inner_less xs base count inner h ends m =
    h m
    ∙ ap bit_of (sym (or_nothing (is_inner base count xs m)) ∙ ap (λ b. is_inner base count xs m || b) (sym (and_nothing (nat_eq m (count + 1))) ∙ ap (λ b. nat_eq m (count + 1) && not b) (sym ends))
    ∙ sym (further (λ k. not (ends_level (letter_left (base + k) xs))) count m))

-- the marks of all letters of a word
within_word : (g : Bool) (count n : ℕ) → 0 < n → n ≤ count → (nat_lt 0 n && (nat_le n count && g)) ≡ g
within_word g count n lt le =
    let a : nat_lt 0 n ≡ true = grind (arith, nat_tests) in
    let b : nat_le n count ≡ true = grind (arith, nat_tests) in
    λ i. a i && (b i && g)

pub are_masks : (xs : List Letter) (base count : ℕ) (masks : Masks) → ((n : ℕ) → n ≤ 62 → base + n ≤ length xs → n ≤ count) → AreMarks xs base count masks.octets → IsInner xs base count masks.inner → AreMasks xs base masks
are_masks xs base count masks all marked inner = record {
  octets = λ o n byte lt le in_text. marked o n byte ∙ ap bit_of (within_word (is_letter o (letter_left (base + n) xs)) count n lt (all n le in_text));
  inner = λ n lt le in_text. inner n ∙ ap bit_of (within_word (not (ends_level (letter_left (base + n) xs))) count n lt (all n le in_text));
}
