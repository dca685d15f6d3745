-- Folds that are kept.
use Rattle.std.specs.Prelude.{◌≡◌, ℕ, List, map, Option, Some, None}
use Rattle.std.specs.List.{AllByRecursion}
use Rattle.std.specs.declared.vec.Vec.{Vec}
use Rattle.imap_text.specs.Fields.{field_texts}
use Rattle.imap_text.specs.Folds.{fold}

-- it is the fold, if one is kept
abbrev pub IsFoldIn : (folded : List ℕ) → Option (List ℕ) → Type 0
IsFoldIn folded None = Unit {0}
IsFoldIn folded (Some text) = text ≡ folded

-- each text stands under the octets of which it is the fold
abbrev pub AreFolds : {Z : Type 0} → List (Vec ℕ Z × List ℕ) → Type 0
AreFolds entries = AllByRecursion (λ e. e.1 ≡ fold e.0.items) entries

-- the folds of the header fields of each name stand under the name
abbrev pub AreFieldFolds : {Z : Type 0} → List ℕ → List (Vec ℕ Z × Vec (List ℕ) Z) → Type 0
AreFieldFolds octets entries =
    AllByRecursion (λ e. e.1.items ≡ map fold (field_texts e.0.items octets)) entries
