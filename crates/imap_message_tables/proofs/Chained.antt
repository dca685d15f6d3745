-- One change after the other.
use Rattle.std.proofs.Common.{◌≡◌, refl}
use Rattle.sqlite.specs.Tree.{Trees}
use Rattle.imap_message_tables.specs.Split.{MakesSplit}

pub none_split : (db : Trees) → MakesSplit (λ a b. b ≡ a) db db
none_split db one split = (one, split, refl)

pub then_split : (R S : Trees → Trees → Type 0) (old mid new : Trees) → MakesSplit R old mid → MakesSplit S mid new → MakesSplit (λ a c. (b : Trees) × R a b × S b c) old new
then_split R S old mid new first second one split =
    let (between, fits, r) = first one split in
    let (next, ends, s) = second between fits in
    (next, ends, (between, r, s))
