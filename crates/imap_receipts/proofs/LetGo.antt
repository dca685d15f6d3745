-- Receipts that are let go of.
use Rattle.std.proofs.Common.{◌≡◌, ◌∙◌, sym, ap, refl, ℕ, ◌<◌, ◌≤◌, true, false, true≢false, List, [], ◌∷◌, ◌++◌, drop, length, if◌then◌else◌, Option, Some, None, arith}
use Rattle.std.specs.Prelude.{option_to_list}
use Rattle.imap_hall.specs.Made.{Made}
use Rattle.imap_receipts.specs.Keeping.{begins_before, but_newest, from_base, has_more_before}

pub none_left : (base : ℕ) (ks : List Made) → begins_before base ks ≡ false → from_base base ks ≡ ks
none_left base [] is = refl
none_left base (k ∷ ks) is = ap (λ b. if b then from_base base ks else k ∷ ks) is

pub one_less : (base : ℕ) (ks rest : List Made) (taken : Option Made) → begins_before base ks ≡ true
    → ks ≡ option_to_list taken ++ rest → from_base base rest ≡ from_base base ks
one_less base [] rest taken is parts = absurd (true≢false (sym is))
one_less base (k ∷ ks) rest None is parts = ap (from_base base) (sym parts)
one_less base (k ∷ ks) rest (Some x) is parts =
    sym (ap (from_base base) parts ∙ ap (λ b. if b then from_base base rest else x ∷ rest) (sym (ap (begins_before base) parts) ∙ is))

-- ---- all but the newest

pub no_more_left : (base : ℕ) (ks : List Made) → has_more_before base ks ≡ false → but_newest base ks ≡ ks
no_more_left base [] is = refl
no_more_left base (k ∷ []) is = refl
no_more_left base (k ∷ l ∷ ks) is = ap (λ b. if b then but_newest base (l ∷ ks) else k ∷ l ∷ ks) is

pub one_less_kept : (base : ℕ) (ks rest : List Made) (taken : Option Made) → has_more_before base ks ≡ true
    → ks ≡ option_to_list taken ++ rest → but_newest base rest ≡ but_newest base ks
one_less_kept base [] rest taken is parts = absurd (true≢false (sym is))
one_less_kept base (k ∷ []) rest taken is parts = absurd (true≢false (sym is))
one_less_kept base (k ∷ l ∷ ks) rest None is parts = ap (but_newest base) (sym parts)
one_less_kept base (k ∷ l ∷ ks) rest (Some x) is parts =
    ap (but_newest base) (sym (ap (drop 1) parts)) ∙ sym (ap (λ b. if b then but_newest base (l ∷ ks) else k ∷ l ∷ ks) is)

pub more_than_one : (base : ℕ) (ks : List Made) → 1 < length ks → begins_before base ks ≡ has_more_before base ks
more_than_one base [] many = absurd (omega (arith, many))
more_than_one base (k ∷ []) many = absurd (omega (arith, many))
more_than_one base (k ∷ l ∷ ks) many = refl

pub at_most_one : (base : ℕ) (ks : List Made) → length ks ≤ 1 → false ≡ has_more_before base ks
at_most_one base [] few = refl
at_most_one base (k ∷ []) few = refl
at_most_one base (k ∷ l ∷ ks) few = absurd (omega (arith, few))
