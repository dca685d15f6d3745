-- Own changes that are kept, with their user.
use Rattle.std.proofs.Common.{◌≡◌, ℕ, ℤ, pos, List, [], ◌∷◌}
use Rattle.std.specs.Prelude.{string_bytes}
use Rattle.sqlite.specs.declared.types.Value.TheVariants.{Int, Text as Words}
use Rattle.imap_mailbox.specs.declared.kept_change.KeptChange.{KeptChange}
use Rattle.imap_mailbox.specs.UserChange.{UserChange, row_of}
use Rattle.imap_records.specs.Columns.{mark_values}
use Rattle.imap_records.proofs.Injective.{same_mark}
use Rattle.imap_tables.specs.Rows.{flag_of}
use Rattle.imap_tables.specs.declared.stored.StoredSeenFlag.{StoredSeenFlag}
use Rattle.imap_restore.specs.Parts.{IsChangeFor}

abbrev pub change_of : (user : List ℕ) → KeptChange → UserChange
change_of user k = record { user = user; place = k.place; change = record { before = k.before; uid = k.uid; seen = k.seen } }

-- the values of a row are those of the change that is read of it
pub mark_shown : (x : StoredSeenFlag) (y : UserChange) → IsChangeFor x y → (n : ℤ)
    → mark_values n y.user (row_of y) ≡ Int n ∷ Words (string_bytes x.row.user) ∷ Int x.row.own ∷ Int x.row.before ∷ Int (pos x.row.uid) ∷ Int (flag_of x.row.seen) ∷ []
mark_shown x y is n = λ i. Int n ∷ Words (is.0.user i) ∷ Int (is.0.place i) ∷ Int (is.0.before i) ∷ Int (pos (is.0.uid i)) ∷ Int (flag_of (is.0.seen i)) ∷ []

pub same_own : (n k : ℤ) (x y : UserChange) → mark_values n x.user (row_of x) ≡ mark_values k y.user (row_of y) → x ≡ y
same_own n k x y e = let s = same_mark n k x.user y.user (row_of x) (row_of y) e in λ i. change_of (s.users i) (s.changes i)
