-- Where a search stops in a list in the order of its keys.
use Rattle.std.specs.Prelude.{◌≡◌, ℕ, suc, ◌<◌, ◌≤◌, Bool, List, [], ◌∷◌, length, None, if◌then◌else◌}
use Rattle.std.specs.FinMap.Entries.{find}
use Rattle.std.specs.List.{HoldsAt}
use Rattle.imap_names.specs.Name.{Name}
use Rattle.imap_names.specs.Order.{name_cmp}
use Rattle.std.specs.declared.cmp.Ordering.{Ordering}
use Rattle.std.specs.declared.cmp.Ordering.TheVariants.{Less, Equal}
use Rattle.std.specs.Ordering.{is_lt, is_le, ordering_index}

-- c says of each key whether it stands before a run of keys, in it or after it
abbrev pub IsCut : {K : Type 0} → (K → K → Ordering) → (K → Ordering) → Type 0
IsCut {K} R c = (a b : K) → ordering_index (c a) < ordering_index (c b) → R a b ≡ Less

-- how many elements pass the test before the first that fails it
abbrev pub leading : {X : Type 0} → (X → Bool) → List X → ℕ
leading p [] = 0
leading p (x ∷ xs) = if p x then suc (leading p xs) else 0

module _ {K X : Type 0} where
  -- how many entries stand before the run, and how many before its end
  abbrev pub before : (K → Ordering) → List (K × X) → ℕ
  before c = leading (λ e. is_lt (c e.0))

  abbrev pub up_to : (K → Ordering) → List (K × X) → ℕ
  up_to c = leading (λ e. is_le (c e.0))

-- the entry at the place has the name
abbrev pub IsAt : {X : Type 0} → Name → List (Name × X) → ℕ → Type 0
IsAt name entries place = (place < length entries) × HoldsAt (λ e. name_cmp e.0 name ≡ Equal) entries place

-- the place of the name
abbrev pub IsPlace : {X : Type 0} → Name → List (Name × X) → ℕ → Type 0
IsPlace name entries place = (place ≡ before (λ x. name_cmp x name) entries) × IsAt name entries place

-- the place that the name, which isn't there, would have
abbrev pub IsGap : {X : Type 0} → Name → List (Name × X) → ℕ → Type 0
IsGap name entries place =
    (place ≡ before (λ x. name_cmp x name) entries) × (place ≤ length entries)
    × (find name_cmp name entries ≡ None)
