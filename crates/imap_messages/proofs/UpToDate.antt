-- A mailbox in which no message can have changed.
use Rattle.std.proofs.Common.{◌≡◌, ℕ, ◌≤◌, Bool, true, false, cond, List, [], ◌∷◌, eqb, Option, Some, None, refl, sym, ap, subst, ◌∙◌, arith}
use Rattle.std.specs.List.{AllByRecursion}
use Rattle.std.proofs.lemmas.Bool.{le-ltb, leb-true}
use Rattle.imap_mailbox.specs.Order.{AreAtMost}
use Rattle.imap_mailbox.specs.Rows.{Row}
use Rattle.imap_messages.specs.declared.reading.Reading.{Reading}
use Rattle.imap_messages.specs.Changed.{changed_of, is_changed, is_up_to_date}
use Rattle.imap_messages.specs.Fetched.{Wanted}
use Rattle.imap_messages.specs.Found.{IsReading, marks_named}
use Rattle.imap_messages.specs.Reading.{lines_from, uids_told}
use Rattle.imap_print.specs.Lines.{IsPrintable}
use Rattle.imap_targets.specs.declared.message_numbers.Numbered.{Numbered}
use Rattle.imap_targets.specs.MessageNumbers.{row_with}
use Rattle.imap_view.specs.declared.readable.Readable.{Readable}

low_row : (since highest uid : ℕ) (rows : List Row) → highest ≤ since → AreAtMost highest rows → is_changed (Some since) (row_with uid rows) ≡ false
low_row since highest uid [] le h = refl
low_row since highest uid (r ∷ rows) le h = by (eqb r.uid uid) (low_row since highest uid rows le h.1)
  where
    by : (b : Bool) → is_changed (Some since) (row_with uid rows) ≡ false → is_changed (Some since) (cond b (Some r) (row_with uid rows)) ≡ false
    by true later = let most : r.number ≤ highest = h.0 in le-ltb since r.number (omega (arith, le, most))
    by false later = later

none_above : (since highest : ℕ) (rows : List Row) → highest ≤ since → AreAtMost highest rows → (messages : List Numbered) → changed_of (Some since) rows messages ≡ []
none_above since highest rows le h [] = refl
none_above since highest rows le h (m ∷ messages) =
    ap (λ b. cond b (m ∷ changed_of (Some since) rows messages) (changed_of (Some since) rows messages)) (low_row since highest m.uid rows le h)
    ∙ none_above since highest rows le h messages

none_changed : (since : Option ℕ) (highest : ℕ) (rows : List Row) → is_up_to_date since highest ≡ true → AreAtMost highest rows → (messages : List Numbered) → changed_of since rows messages ≡ []
none_changed None highest rows test h messages = absurd (cc test)
none_changed (Some since) highest rows test h messages = none_above since highest rows (leb-true highest since test) h messages

pub nothing_read : (since : Option ℕ) (wanted : Wanted) (sets : Bool) (mailbox : Readable) (messages : List Numbered) (found : Reading) → is_up_to_date since mailbox.highest ≡ true → AreAtMost mailbox.highest mailbox.rows
    → found.lines.items ≡ [] → found.marks.items ≡ [] → found.told.items ≡ [] → IsReading wanted sets mailbox (changed_of since mailbox.rows messages) found
nothing_read since wanted sets mailbox messages found test h lines marks told =
    let none = none_changed since mailbox.highest mailbox.rows test h messages in
    record {
      lines = lines ∙ ap (lines_from wanted sets mailbox.rows mailbox.highest mailbox.own) (sym none);
      marks = marks ∙ ap (marks_named sets mailbox.rows) (sym none);
      told = told ∙ ap (uids_told wanted sets mailbox.rows mailbox.own) (sym none);
      printable = subst (AllByRecursion IsPrintable) (sym lines) tt;
    }
