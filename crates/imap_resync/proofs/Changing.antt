-- The lines of messages that changed, one message after another.
use Rattle.std.proofs.Common.{◌≡◌, ℕ, ◌+◌, ◌<◌, ◌≤◌, cond, List, [], ◌∷◌, ◌++◌, append_assoc, drop, get_or, length, refl, sym, ap, ◌∙◌, arith, ◌&&◌}
use Rattle.std.specs.Prelude.{Option}
use Rattle.std.specs.List.{AllByRecursion}
use Rattle.std.proofs.lemmas.Bool.{le-ltb}
use Rattle.std.proofs.lemmas.List.{drop_more}
use Rattle.imap_mailbox.specs.Order.{AreAtMost}
use Rattle.imap_mailbox.specs.Rows.{Row}
use Rattle.imap_print.specs.declared.response.Response.{Response}
use Rattle.imap_print.specs.Lines.{IsPrintable}
use Rattle.imap_targets.proofs.OneLines.{all_append}
use Rattle.imap_resync.specs.Select.{changed_line, changed_lines, line_if_changed}
use Rattle.imap_resync.specs.UidSet.{UidSet, includes}

module _ (since : ℕ) (uids : Option UidSet) where
  -- no message is above what is the highest
  pub none_changed : (highest n : ℕ) (rows : List Row) → highest ≤ since → AreAtMost highest rows → changed_lines since uids n rows ≡ []
  none_changed highest n [] le h = refl
  none_changed highest n (row ∷ rows) le h =
      let most : row.number ≤ highest = h.0 in
      ap (λ b. cond (b && includes uids row.uid) (changed_line n row ∷ []) [] ++ changed_lines since uids (n + 1) rows) (le-ltb since row.number (omega (arith, le, most)))
      ∙ none_changed highest (n + 1) rows le h.1

  -- the lines up to a place, and those from there on
  pub record IsSoFar (rows : List Row) (place : ℕ) (lines : List Response) : Type 0 where
    pub front : lines ++ changed_lines since uids (place + 1) (drop place rows) ≡ changed_lines since uids 1 rows
    pub printable : AllByRecursion IsPrintable lines

  pub one_more : (rows : List Row) (place number : ℕ) (row : Row) (lines new : List Response) → place < length rows → row ≡ get_or rows place row → number ≡ place + 1
      → new ≡ lines ++ line_if_changed since uids number row → (AllByRecursion IsPrintable lines → AllByRecursion IsPrintable new) → IsSoFar rows place lines → IsSoFar rows (place + 1) new
  one_more rows place number row lines new lt is at made printable before = record {
    front =
        ap (λ ls. ls ++ changed_lines since uids (place + 1 + 1) (drop (place + 1) rows)) (made ∙ ap (λ n. lines ++ line_if_changed since uids n row) at)
        ∙ append_assoc lines (line_if_changed since uids (place + 1) row) (changed_lines since uids (place + 1 + 1) (drop (place + 1) rows))
        ∙ ap (λ rs. lines ++ changed_lines since uids (place + 1) rs) (sym (drop_more rows place row lt ∙ ap (λ r. r ∷ drop (place + 1) rows) (sym is)))
        ∙ before.front;
    printable = printable before.printable;
  }

pub one_pushed : (lines : List Response) (line : Response) → IsPrintable line → AllByRecursion IsPrintable lines → AllByRecursion IsPrintable (lines ++ line ∷ [])
one_pushed lines line one all = all_append lines (line ∷ []) all (one, tt)
