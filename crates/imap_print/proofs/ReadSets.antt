-- A printed set is read back by the grammar.
use Rattle.std.proofs.Common.{◌≡◌, ℕ, ◌+◌, ◌<◌, ◌^◌, Bool, true, false, not, cond, ◌&&◌, ◌||◌, eqb, ltb, List, [], ◌∷◌, ◌++◌, length, get_or, map, refl, sym, ap, subst, append_assoc, append-nil, inr, codes, arith}
use Rattle.std.specs.Fmt.{decimal}
use Rattle.std.specs.Char.{is_ascii_digit}
use Rattle.std.specs.List.{AllByRecursion}
use Rattle.std.proofs.lemmas.Bool.{eqb-true}
use Rattle.std.proofs.lemmas.Bool.Decides.{nat_tests}
use Rattle.std.proofs.lemmas.Fmt.{first_decimal}
use Rattle.imap_syntax.specs.declared.set.SeqNumber.TheVariants as number
use Rattle.imap_syntax.specs.declared.set.SeqRange.{SeqRange}
use Rattle.imap_syntax.specs.Rule.{octet, IsSeparated}
use Rattle.imap_syntax.specs.Lexical.{nz_number, begins_with_zero, decimal as value_of}
use Rattle.imap_syntax.specs.Sets.{seq_number, seq_range, seq_set}
use Rattle.imap_syntax.proofs.RuleLaws.{Lawful}
use Rattle.imap_syntax.proofs.Lists.{EndsList, separated_lawful}
use Rattle.imap_syntax.proofs.Sets.{AfterRange, seq_range_lawful}
use Rattle.imap_syntax.proofs.Writing.{both_true, digits_made, number_value}
use Rattle.std.proofs.lemmas.Bool.{ltb-true}
use Rattle.imap_print.specs.Sets.{Range, Fits, IsNumberSet, rise_above, runs, runs_from, range_text}
use Rattle.imap_print.specs.ReadBack.{EndsSet, seq_range_of, SetIsReadBack}
use Rattle.imap_print.proofs.Runs.{ranges_text, comma}

-- ---- what the grammar reads, by what may follow a set

set_lawful : Lawful (EndsList 44 AfterRange) seq_set
set_lawful = separated_lawful 44 (λ rest. (refl, refl)) seq_range_lawful

none_holds : (a b c : Bool) → (a || b || c) ≡ false → (a ≡ false) × (b ≡ false) × (c ≡ false)
none_holds true b c h = absurd cc
none_holds false true c h = absurd cc
none_holds false false c h = (refl, refl, h)

ends_list : (rest : List ℕ) → EndsSet rest → EndsList 44 AfterRange rest
ends_list [] h = ((tt, tt), tt)
ends_list (octet ∷ rest) h = let no = none_holds (is_ascii_digit octet) (eqb octet 58) (eqb octet 44) h in ((no.0, no.1), no.2)

-- ---- a number

-- a message number or UID
abbrev IsNumber : ℕ → Type 0
IsNumber n = (0 < n) × (n < 2 ^ 32)

are_numbers : (low : ℕ) (numbers : List ℕ) → rise_above low numbers ≡ true → AllByRecursion Fits numbers → AllByRecursion IsNumber numbers
are_numbers low [] rise fit = tt
are_numbers low (n ∷ numbers) rise fit =
    let parts = both_true (ltb low n) (rise_above n numbers) rise in
    let lt : low < n = ltb-true low n parts.0 in
    let some : 0 < n = omega arith in
    ((some, fit.0), are_numbers n numbers parts.1 fit.1)

no_zero_first : (digits : List ℕ) → 48 < get_or digits 0 0 → begins_with_zero digits ≡ false
no_zero_first [] h = refl
no_zero_first (d ∷ digits) h = grind (arith, nat_tests)

number_spelt : (n : ℕ) → IsNumber n → seq_number.spells (number.Number n) (decimal n)
number_spelt n h =
    let held : n < 2 ^ 64 = omega (arith, h.1) in
    let digits = decimal n in
    let value : value_of digits ≡ n = number_value n held in
    let small : ltb 4294967295 n ≡ false = grind (arith, nat_tests, h.1) in
    let starts = no_zero_first digits (first_decimal n h.0 held) in
    let passes : (not (begins_with_zero digits) && not (ltb 4294967295 (value_of digits))) ≡ true = rw (starts, value, small) refl in
    let spelt : (nz_number 4294967295).spells n digits = (digits, digits, [], digits_made n held, (passes, sym value, refl), sym (append-nil digits)) in
    inr (n, digits, [], spelt, (refl, refl), sym (append-nil digits))

-- ---- a range

range_spelt : (first last : ℕ) (b : Bool) → eqb first last ≡ b → IsNumber first → IsNumber last
    → seq_range.spells (seq_range_of (record { first = first; last = last })) (cond b (decimal first) (decimal first ++ codes ":" ++ decimal last))
range_spelt first last true is h k =
    (number.Number first, decimal first, [], number_spelt first h, (false, [], [], refl, (ap (λ n. record { first = number.Number first; last = number.Number n }) (sym (eqb-true first last is)), refl), refl), sym (append-nil (decimal first)))
range_spelt first last false is h k = (
  number.Number first,
  decimal first,
  58 ∷ decimal last,
  number_spelt first h,
  (true, 58 ∷ [], decimal last, refl, (number.Number last, decimal last, [], number_spelt last k, (refl, refl), sym (append-nil (decimal last))), refl),
  append_assoc (decimal first) (58 ∷ []) (decimal last),
)

-- ---- a set

item_before : (spells : SeqRange → List ℕ → Type 0) (a : SeqRange) (others : List SeqRange) (front text : List ℕ) → spells a front → IsSeparated 44 spells others text → IsSeparated 44 spells (a ∷ others) (front ++ (44 ∷ text))
item_before spells a [] front text h k = absurd k
item_before spells a (c ∷ others) front text h k = (front, text, h, k, refl)

abbrev IsSpelt : List Range → Type 0
IsSpelt ranges = IsSeparated 44 seq_range.spells (map seq_range_of ranges) (ranges_text ranges)

ranges_spelt : (first last : ℕ) (numbers : List ℕ) → IsNumber first → IsNumber last → AllByRecursion IsNumber numbers → IsSpelt (runs_from first last numbers)
ranges_spelt first last [] h k all = subst (seq_range.spells (seq_range_of (record { first = first; last = last }))) (sym (append-nil (range_text (record { first = first; last = last })))) (range_spelt first last (eqb first last) refl h k)
ranges_spelt first last (n ∷ numbers) h k all =
    let range : Range = record { first = first; last = last } in
    let others = runs_from n n numbers in
    let goes_on = ranges_spelt first n numbers h all.0 all.1 in
    let anew = item_before seq_range.spells (seq_range_of range) (map seq_range_of others) (range_text range) (ranges_text others) (range_spelt first last (eqb first last) refl h k) (ranges_spelt n n numbers all.0 all.0 all.1) in
    elim (eqb n (last + 1)) as (λ b. IsSpelt (cond b (runs_from first n numbers) (range ∷ others))) [
      | true ↦ goes_on
      | false ↦ subst (λ (t : List ℕ). IsSeparated 44 seq_range.spells (map seq_range_of (range ∷ others)) (range_text range ++ t)) (sym (comma n n numbers)) anew
    ]

pub sets_are_read_back : (numbers : List ℕ) → IsNumberSet numbers → SetIsReadBack numbers
sets_are_read_back [] set rest end = let no : false ≡ true = set.rising in absurd cc
sets_are_read_back (n ∷ numbers) set rest end =
    let all : AllByRecursion IsNumber (n ∷ numbers) = are_numbers 0 (n ∷ numbers) (both_true (not (eqb (length (n ∷ numbers)) 0)) (rise_above 0 (n ∷ numbers)) set.rising).1 set.fit in
    set_lawful.complete (map seq_range_of (runs (n ∷ numbers))) (ranges_text (runs (n ∷ numbers))) rest (ranges_spelt n n numbers all.0 all.0 all.1) (ends_list rest end)
