-- Tables that a change leaves alone.
use Rattle.std.proofs.Common.{◌≡◌, inl, inr, ℕ, false, refl, ◌∙◌}
use Rattle.std.specs.Prelude.{eqb}
use Rattle.sqlite.specs.Tree.{Trees}
use Rattle.imap_tables.specs.Edits.{KeepsOthers}
use Rattle.imap_tables.specs.Tables.{body_table, keyword_table, message2_table, message_table}
use Rattle.imap_message_tables.proofs.Places.{ne}

module _ (old new : Trees) (tree : ℕ) (keeps : KeepsOthers old new tree) where
  pub message_stays : eqb 4 tree ≡ false → new 4 ≡ old 4
  message_stays e = keeps message_table (inr (inr (inl refl))) (ne 4 tree e)

  pub heads_stay : eqb 16 tree ≡ false → new 16 ≡ old 16
  heads_stay e = keeps message2_table (inr (inr (inr (inr (inr (inr (inr (inr (inl refl))))))))) (ne 16 tree e)

  pub bodies_stay : eqb 18 tree ≡ false → new 18 ≡ old 18
  bodies_stay e = keeps body_table (inr (inr (inr (inr (inr (inr (inr (inr (inr (inl refl)))))))))) (ne 18 tree e)

  pub words_stay : eqb 20 tree ≡ false → new 20 ≡ old 20
  words_stay e = keeps keyword_table (inr (inr (inr (inr (inr (inr (inr (inr (inr (inr (inl refl))))))))))) (ne 20 tree e)

pub keeps_then : (old mid new : Trees) (tree : ℕ) → KeepsOthers old mid tree → KeepsOthers mid new tree → KeepsOthers old new tree
keeps_then old mid new tree a b table listed off = b table listed off ∙ a table listed off
