-- Rows by their values, after rows are added, go or are replaced.
use Rattle.std.proofs.Common.{◌≡◌, ◌≢◌, ◌⊎◌, inl, inr, ℕ, ℤ, true, false, List, ◌∷◌, Equal, is_eq, eq-eqb, true≢false, refl, sym, ap, subst, ◌∙◌}
use Rattle.std.specs.Prelude.{eqb}
use Rattle.std.proofs.lemmas.Cmp.{tied_itself}
use Rattle.sqlite_value.proofs.OrderLemmas.{value_cmp_total}
use Rattle.sqlite.specs.declared.types.Value.TheVariants.{Int}
use Rattle.sqlite.specs.Order.{Row, value_cmp}
use Rattle.sqlite.specs.Tree.{Trees, has_rowid, rowid}
use Rattle.sqlite_rules.specs.Lists.{Has}
use Rattle.imap_tables.specs.Edits.{Adds, KeepsOthers, Removes, Replaces}
use Rattle.imap_tables.specs.Tables.{mailbox_table, acl_table, message_table, gone_table, mark_table, epoch_table, sub_table}
use Rattle.imap_records.specs.Standing.{AreRows, IsNumbered}

-- ---- numbers

ne : (a b : ℕ) → eqb a b ≡ false → a ≢ b
ne a b is e = true≢false (sym (eq-eqb a b e) ∙ is)

pub at_its_rowid : (row : Row) (id : ℤ) → rowid row ≡ Int id → has_rowid id row ≡ true
at_its_rowid row id is = ap is_eq (subst (λ v. value_cmp v (Int id) ≡ Equal) (sym is) (tied_itself value_cmp_total (Int id)))

-- ---- rows

-- the same rows, said otherwise
pub rows_alike : (rows : List Row) (P Q : Row → Type 0) → ((v : Row) → P v → Q v) → ((v : Row) → Q v → P v) → AreRows rows P → AreRows rows Q
rows_alike rows P Q to from are = record {
  sound = λ row has. let n = are.sound row has in record { rowid = n.rowid; values = n.values; shown = n.shown; meant = to n.values n.meant };
  complete = λ values q. are.complete values (from values q);
}

pub same_rows : (rows others : List Row) (P : Row → Type 0) → others ≡ rows → AreRows rows P → AreRows others P
same_rows rows others P same are = subst (λ (l : List Row). AreRows l P) (sym same) are

module _ (old new : Trees) (tree : ℕ) (P : Row → Type 0) (are : AreRows (old tree) P) where
  -- one more
  pub rows_added : (values : Row) → Adds old new tree (λ (n : ℤ). Int n ∷ values) → AreRows (new tree) (λ v. P v ⊎ (v ≡ values))
  rows_added values adds = record {
    sound = λ row has. sound row (adds.only row has);
    complete = complete;
  }
    where
      sound : (row : Row) → (row ≡ Int adds.id ∷ values) ⊎ Has (old tree) row → IsNumbered (λ v. P v ⊎ (v ≡ values)) row
      sound row (inl is) = record { rowid = adds.id; values = values; shown = is; meant = inr refl }
      sound row (inr has) = let n = are.sound row has in record { rowid = n.rowid; values = n.values; shown = n.shown; meant = inl n.meant }

      complete : (v : Row) → P v ⊎ (v ≡ values) → (n : ℤ) × Has (new tree) (Int n ∷ v)
      complete v (inl p) = let (n, has) = are.complete v p in (n, adds.kept (Int n ∷ v) has)
      complete v (inr is) = (adds.id, subst (λ (w : Row). Has (new tree) (Int adds.id ∷ w)) (sym is) adds.added)

  -- those without Q
  pub rows_left : (R Q : Row → Type 0) → ((n : ℤ) (v : Row) → R (Int n ∷ v) → Q v) → ((n : ℤ) (v : Row) → Q v → R (Int n ∷ v)) → Removes old new tree R
      → AreRows (new tree) (λ v. P v × ¬ Q v)
  rows_left R Q to from removes = record {
    sound = λ row has.
        let (was, not) = (removes.left row).0 has in
        let n = are.sound row was in
        record { rowid = n.rowid; values = n.values; shown = n.shown; meant = (n.meant, λ q. not (subst R (sym n.shown) (from n.rowid n.values q))) };
    complete = λ v h.
        let (n, has) = are.complete v h.0 in
        (n, (removes.left (Int n ∷ v)).1 (has, λ r. h.1 (to n v r)));
  }

  -- those with Q, changed, and the others
  pub rows_replaced : (R Q : Row → Type 0) → ((n : ℤ) (v : Row) → R (Int n ∷ v) → Q v) → ((n : ℤ) (v : Row) → Q v → R (Int n ∷ v)) → (heir g : Row → Row)
      → ((n : ℤ) (v : Row) → heir (Int n ∷ v) ≡ Int n ∷ g v) → Replaces old new tree R heir
      → AreRows (new tree) (λ v. (P v × ¬ Q v) ⊎ ((u : Row) × P u × Q u × (v ≡ g u)))
  rows_replaced R Q to from heir g becomes replaces = record {
    sound = λ row has. sound row (replaces.only row has);
    complete = complete;
  }
    where
      Left : Row → Type 0
      Left v = (P v × ¬ Q v) ⊎ ((u : Row) × P u × Q u × (v ≡ g u))

      sound : (row : Row) → (Has (old tree) row × ¬ R row) ⊎ ((was : Row) × Has (old tree) was × R was × (row ≡ heir was)) → IsNumbered (λ v. (P v × ¬ Q v) ⊎ ((u : Row) × P u × Q u × (v ≡ g u))) row
      sound row (inl (was, not)) =
          let n = are.sound row was in
          record { rowid = n.rowid; values = n.values; shown = n.shown; meant = inl (n.meant, λ q. not (subst R (sym n.shown) (from n.rowid n.values q))) }
      sound row (inr (was, has, r, is)) =
          let n = are.sound was has in
          record {
            rowid = n.rowid;
            values = g n.values;
            shown = is ∙ ap heir n.shown ∙ becomes n.rowid n.values;
            meant = inr (n.values, n.meant, to n.rowid n.values (subst R n.shown r), refl);
          }

      complete : (v : Row) → (P v × ¬ Q v) ⊎ ((u : Row) × P u × Q u × (v ≡ g u)) → (n : ℤ) × Has (new tree) (Int n ∷ v)
      complete v (inl (p, not)) = let (n, has) = are.complete v p in (n, replaces.kept (Int n ∷ v) has (λ r. not (to n v r)))
      complete v (inr (u, p, q, is)) =
          let (n, has) = are.complete u p in
          (n, subst (λ (row : Row). Has (new tree) row) (becomes n u ∙ ap (λ (w : Row). Int n ∷ w) (sym is)) (replaces.replaced (Int n ∷ u) has (from n u q)))

-- ---- the tables that stay

module _ (old new : Trees) (tree : ℕ) (keeps : KeepsOthers old new tree) where
  pub mailbox_stays : eqb 0 tree ≡ false → new 0 ≡ old 0
  mailbox_stays e = keeps mailbox_table (inl refl) (ne 0 tree e)

  pub acl_stays : eqb 2 tree ≡ false → new 2 ≡ old 2
  acl_stays e = keeps acl_table (inr (inl refl)) (ne 2 tree e)

  pub message_stays : eqb 4 tree ≡ false → new 4 ≡ old 4
  message_stays e = keeps message_table (inr (inr (inl refl))) (ne 4 tree e)

  pub gone_stays : eqb 6 tree ≡ false → new 6 ≡ old 6
  gone_stays e = keeps gone_table (inr (inr (inr (inl refl)))) (ne 6 tree e)

  pub mark_stays : eqb 8 tree ≡ false → new 8 ≡ old 8
  mark_stays e = keeps mark_table (inr (inr (inr (inr (inl refl))))) (ne 8 tree e)

  pub epoch_stays : eqb 10 tree ≡ false → new 10 ≡ old 10
  epoch_stays e = keeps epoch_table (inr (inr (inr (inr (inr (inl refl)))))) (ne 10 tree e)

  pub sub_stays : eqb 12 tree ≡ false → new 12 ≡ old 12
  sub_stays e = keeps sub_table (inr (inr (inr (inr (inr (inr (inl refl))))))) (ne 12 tree e)
