-- The trees of messages, and the others.
use Rattle.std.proofs.Common.{◌≡◌, ◌≢◌, inl, inr, ℕ, false, eq-eqb, true≢false, refl, sym, ap, subst, ◌∙◌}
use Rattle.std.specs.Prelude.{eqb}
use Rattle.sqlite.specs.Table.{Table}
use Rattle.sqlite_rules.specs.Lists.{Has}
use Rattle.imap_tables.specs.Tables.{store_tables}

pub ne : (a b : ℕ) → eqb a b ≡ false → a ≢ b
ne a b is e = true≢false (sym (eq-eqb a b e) ∙ is)

pub data Kind (tree : ℕ) : Type 0 where
  message_at : (tree ≡ 4) → Kind tree
  message2_at : (tree ≡ 16) → Kind tree
  body_at : (tree ≡ 18) → Kind tree
  keyword_at : (tree ≡ 20) → Kind tree
  Other : ((tree ≢ 4) × (tree ≢ 16) × (tree ≢ 18) × (tree ≢ 20)) → Kind tree

other : (table : Table) (t : ℕ) → table.tree ≡ t → eqb t 4 ≡ false → eqb t 16 ≡ false → eqb t 18 ≡ false → eqb t 20 ≡ false → Kind table.tree
other table t e a b c d = subst Kind (sym e) (Other (ne t 4 a, ne t 16 b, ne t 18 c, ne t 20 d))

pub kind_of : (table : Table) → Has store_tables table → Kind table.tree
kind_of table (inl e) = other table 0 (ap (λ (t : Table). t.tree) e) refl refl refl refl
kind_of table (inr (inl e)) = other table 2 (ap (λ (t : Table). t.tree) e) refl refl refl refl
kind_of table (inr (inr (inl e))) = message_at (ap (λ (t : Table). t.tree) e)
kind_of table (inr (inr (inr (inl e)))) = other table 6 (ap (λ (t : Table). t.tree) e) refl refl refl refl
kind_of table (inr (inr (inr (inr (inl e))))) = other table 8 (ap (λ (t : Table). t.tree) e) refl refl refl refl
kind_of table (inr (inr (inr (inr (inr (inl e)))))) = other table 10 (ap (λ (t : Table). t.tree) e) refl refl refl refl
kind_of table (inr (inr (inr (inr (inr (inr (inl e))))))) = other table 12 (ap (λ (t : Table). t.tree) e) refl refl refl refl
kind_of table (inr (inr (inr (inr (inr (inr (inr (inl e)))))))) = other table 14 (ap (λ (t : Table). t.tree) e) refl refl refl refl
kind_of table (inr (inr (inr (inr (inr (inr (inr (inr (inl e))))))))) = message2_at (ap (λ (t : Table). t.tree) e)
kind_of table (inr (inr (inr (inr (inr (inr (inr (inr (inr (inl e)))))))))) = body_at (ap (λ (t : Table). t.tree) e)
kind_of table (inr (inr (inr (inr (inr (inr (inr (inr (inr (inr (inl e))))))))))) = keyword_at (ap (λ (t : Table). t.tree) e)
kind_of table (inr (inr (inr (inr (inr (inr (inr (inr (inr (inr (inr none))))))))))) = absurd none
