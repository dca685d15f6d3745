-- The keywords of messages, one message further.
use Rattle.std.proofs.Common.{◌≡◌, ℕ, zero, suc, ◌+◌, ◌<◌, List, [], ◌∷◌, length, drop, get_or, refl, sym, ap, ◌∙◌, arith}
use Rattle.std.proofs.lemmas.List.{drop_more}
use Rattle.imap_syntax.specs.Keywords.{with_words}
use Rattle.imap_mailbox.specs.declared.flags.SharedFlags.{SharedFlags}
use Rattle.imap_mailbox.specs.Rows.{Row}
use Rattle.imap_session.specs.Select.{with_keywords}

pub record IsAt (rows : List Row) (p : ℕ) : Type 0 where
  pub row : Row
  pub is : row ≡ get_or rows p row

pub row_at : (rows : List Row) (p : ℕ) → p < length rows → IsAt rows p
row_at [] p lt = absurd (omega arith)
row_at (r ∷ rows) zero lt = record { row = r; is = refl }
row_at (r ∷ rows) (suc p) lt = let later = row_at rows p (omega arith) in record { row = later.row; is = later.is }

pub keywords_step : (rows : List Row) (p : ℕ) (flags : SharedFlags) (words : List (List ℕ)) → p < length rows → ((row : Row) → row ≡ get_or rows p row → flags ≡ row.flags)
    → with_keywords (with_words flags.keywords words) (drop (p + 1) rows) ≡ with_keywords words (drop p rows)
keywords_step rows p flags words lt h =
    let at = row_at rows p lt in
    ap (λ (f : SharedFlags). with_keywords (with_words f.keywords words) (drop (p + 1) rows)) (h at.row at.is)
    ∙ sym (ap (with_keywords words) (drop_more rows p at.row lt ∙ ap (λ r. r ∷ drop (p + 1) rows) (sym at.is)))
