-- Whether a text stands in another one, as a test.
use Rattle.std.specs.Prelude.{◌≡◌, ◌↔◌, ℕ, Bool, true, false, ◌==◌, ◌&&◌, ◌||◌, List, [], ◌∷◌}
use Rattle.imap_text.specs.Folds.{IsWithin}

-- `whole` begins with `part`
abbrev pub is_front : (part whole : List ℕ) → Bool
is_front [] whole = true
is_front (p ∷ part) [] = false
is_front (p ∷ part) (w ∷ whole) = (p == w) && is_front part whole

-- `part` stands somewhere in `whole`
abbrev pub is_within : (part whole : List ℕ) → Bool
is_within part [] = is_front part []
is_within part (w ∷ whole) = is_front part (w ∷ whole) || is_within part whole

-- the test is true exactly if `part` stands in `whole`
abbrev pub WithinIsTested : Type 0
WithinIsTested = (part whole : List ℕ) → (is_within part whole ≡ true) ↔ IsWithin part whole
