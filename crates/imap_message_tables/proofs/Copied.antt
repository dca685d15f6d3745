-- Rows are copied one after the other.
use Rattle.std.proofs.Common.{◌≡◌, ◌⊎◌, inl, inr, ℤ, List, [], ◌∷◌, refl, sym, ap, subst, ◌∙◌}
use Rattle.sqlite.specs.declared.types.Value.TheVariants.{Int}
use Rattle.sqlite.specs.Order.{Row}
use Rattle.sqlite.specs.Table.{Table}
use Rattle.sqlite.specs.Tree.{Trees}
use Rattle.sqlite_rules.specs.Lists.{Has}
use Rattle.imap_message_tables.specs.Copying.{CopiesRows, IsSameButRowids, RowsAreCopied, values_of}
use Rattle.imap_message_tables.specs.Split.{IsOther, MakesSplit}
use Rattle.imap_message_tables.proofs.Chained.{none_split, then_split}
use Rattle.imap_message_tables.proofs.Fitting.{empty_fits}
use Rattle.imap_message_tables.proofs.Written.{added}
use Rattle.imap_tables.specs.Edits.{Adds}
use Rattle.imap_tables.specs.Tables.{store_tables}
use Rattle.imap_tables.specs.declared.stored.StoredMessage.{StoredMessage}

-- what the one table sees
abbrev AddsRow : StoredMessage → (old new : Trees) → Type 0
AddsRow m old new = Adds old new 4 (λ n. Int n ∷ values_of m)

abbrev AddsRows : List StoredMessage → (old new : Trees) → Type 0
AddsRows [] old new = new ≡ old
AddsRows (m ∷ ms) old new = (mid : Trees) × AddsRow m old mid × AddsRows ms mid new

all_added : (ms : List StoredMessage) (old new : Trees) → CopiesRows ms old new → MakesSplit (AddsRows ms) old new
all_added [] old new made = subst (λ db. MakesSplit (λ a b. b ≡ a) old db) (sym made) (none_split old)
all_added (m ∷ ms) old new (mid, one, more) = then_split (AddsRow m) (AddsRows ms) old mid new (λ one_table split. added old mid one_table m.mailbox split m.row one) (all_added ms mid new more)

-- the rows after them are those before and the messages
added_other : (ms : List StoredMessage) (old new : Trees) → AddsRows ms old new → (table : Table) → Has store_tables table → IsOther table.tree → new table.tree ≡ old table.tree
added_other [] old new made table listed o = λ i. made i table.tree
added_other (m ∷ ms) old new (mid, one, more) table listed o = added_other ms mid new more table listed o ∙ one.others table listed o.0

added_sound : (ms : List StoredMessage) (old new : Trees) → AddsRows ms old new → (row : Row) → Has (new 4) row → Has (old 4) row ⊎ ((n : ℤ) × (m : StoredMessage) × Has ms m × (row ≡ Int n ∷ values_of m))
added_sound [] old new made row h = inl (subst (λ (db : Trees). Has (db 4) row) made h)
added_sound (m ∷ ms) old new (mid, one, more) row h = by (added_sound ms mid new more row h)
  where
    first : (row ≡ Int one.id ∷ values_of m) ⊎ Has (old 4) row → Has (old 4) row ⊎ ((n : ℤ) × (k : StoredMessage) × Has (m ∷ ms) k × (row ≡ Int n ∷ values_of k))
    first (inl e) = inr (one.id, m, inl refl, e)
    first (inr was) = inl was

    by : Has (mid 4) row ⊎ ((n : ℤ) × (k : StoredMessage) × Has ms k × (row ≡ Int n ∷ values_of k)) → Has (old 4) row ⊎ ((n : ℤ) × (k : StoredMessage) × Has (m ∷ ms) k × (row ≡ Int n ∷ values_of k))
    by (inl was) = first (one.only row was)
    by (inr (n, k, there, e)) = inr (n, k, inr there, e)

added_kept : (ms : List StoredMessage) (old new : Trees) → AddsRows ms old new → (row : Row) → Has (old 4) row → Has (new 4) row
added_kept [] old new made row h = subst (λ (db : Trees). Has (db 4) row) (sym made) h
added_kept (m ∷ ms) old new (mid, one, more) row h = added_kept ms mid new more row (one.kept row h)

added_complete : (ms : List StoredMessage) (old new : Trees) → AddsRows ms old new → (m : StoredMessage) → Has ms m → (n : ℤ) × Has (new 4) (Int n ∷ values_of m)
added_complete [] old new made m none = absurd none
added_complete (k ∷ ms) old new (mid, one, more) m (inl e) = (one.id, added_kept ms mid new more (Int one.id ∷ values_of m) (subst (λ x. Has (mid 4) (Int one.id ∷ values_of x)) (sym e) one.added))
added_complete (k ∷ ms) old new (mid, one, more) m (inr h) = added_complete ms mid new more m h

abbrev tail_of : Row → Row
tail_of [] = []
tail_of (v ∷ values) = values

pub rows_are_copied : RowsAreCopied
rows_are_copied old emptied new messages are empty made =
    let (one, split, adds) = all_added messages emptied new made emptied (empty_fits emptied empty.message empty.heads empty.bodies empty.words) in
    (one, split, same one adds)
  where
    same : (one : Trees) → AddsRows messages emptied one → IsSameButRowids old one
    same one adds = record {
      others = λ table listed o. added_other messages emptied one adds table listed o ∙ empty.others table listed o;
      rows = λ values. (to values, from values);
    }
      where
        found : (values : Row) (n : ℤ) → Has (emptied 4) (Int n ∷ values) ⊎ ((k : ℤ) × (m : StoredMessage) × Has messages m × (Int n ∷ values ≡ Int k ∷ values_of m)) → (k : ℤ) × Has (old 4) (Int k ∷ values)
        found values n (inl was) = absurd (subst (λ (l : List Row). Has l (Int n ∷ values)) empty.message was)
        found values n (inr (k, m, there, e)) = let (j, h) = are.complete m there in (j, subst (λ (r : Row). Has (old 4) (Int j ∷ r)) (sym (ap tail_of e)) h)

        to : (values : Row) → ((n : ℤ) × Has (one 4) (Int n ∷ values)) → (n : ℤ) × Has (old 4) (Int n ∷ values)
        to values (n, h) = found values n (added_sound messages emptied one adds (Int n ∷ values) h)

        from : (values : Row) → ((n : ℤ) × Has (old 4) (Int n ∷ values)) → (n : ℤ) × Has (one 4) (Int n ∷ values)
        from values (n, h) =
            let (k, m, there, e) = are.sound (Int n ∷ values) h in
            let (j, has) = added_complete messages emptied one adds m there in
            (j, subst (λ (r : Row). Has (one 4) (Int j ∷ r)) (sym (ap tail_of e)) has)
