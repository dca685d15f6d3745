-- The marks of messages that are read may be made in a mailbox that is read.
use Rattle.std.proofs.Common.{◌≡◌, ℕ, ◌+◌, ◌≤◌, Bool, true, false, cond, List, [], ◌∷◌, filter, map, Some, refl, ap, subst, ◌∙◌, arith}
use Rattle.std.specs.List.{list_all}
use Rattle.imap_answer.specs.Fit.{IsViewed, MayBeAsked}
use Rattle.imap_batch.specs.declared.batch.Batch.{Batch}
use Rattle.imap_batch.specs.declared.batch.FlagUpdate.{FlagUpdate}
use Rattle.imap_batch.specs.Batch.{are_few, are_known, flag_count, mark_uids}
use Rattle.imap_mailbox.specs.Lent.{row_uids}
use Rattle.imap_mailbox.specs.Rows.{Row}
use Rattle.imap_names.specs.Name.{Name}
use Rattle.imap_targets.specs.declared.message_numbers.Numbered.{Numbered}
use Rattle.imap_targets.proofs.Possible.{ChangesRows, chosen_known, may_change, rows_rise}
use Rattle.imap_view.specs.declared.readable.Readable.{Readable}
use Rattle.imap_view.specs.Readable.{readable_in}
use Rattle.imap_view.specs.View.{View}
use Rattle.imap_messages.specs.Reading.{is_unread, read_effect, seen_mark, seen_marks}
use Rattle.imap_targets.specs.Effects.{marking_effect}

-- ---- marks of rows

uids_of_marks : (rows : List Row) → mark_uids (map seen_mark rows) ≡ row_uids rows
uids_of_marks [] = refl
uids_of_marks (r ∷ rows) = ap (λ uids. r.uid ∷ uids) (uids_of_marks rows)

module _ (messages : List Numbered) where
  abbrev chosen : Bool → Row → List Row → List FlagUpdate
  chosen b r rows = map seen_mark (cond b (r ∷ filter (is_unread messages) rows) (filter (is_unread messages) rows))

  no_flags : (rows : List Row) → flag_count (seen_marks messages rows) ≡ 0
  no_flags [] = refl
  no_flags (r ∷ rows) = by (is_unread messages r) (no_flags rows)
    where
      by : (b : Bool) → flag_count (seen_marks messages rows) ≡ 0 → flag_count (chosen b r rows) ≡ 0
      by true e = ap (λ n. 0 + n) e
      by false e = e

  few_keywords : (rows : List Row) → list_all (λ (k : FlagUpdate). are_few k.flags) (seen_marks messages rows) ≡ true
  few_keywords [] = refl
  few_keywords (r ∷ rows) = by (is_unread messages r) (few_keywords rows)
    where
      by : (b : Bool) → list_all (λ (k : FlagUpdate). are_few k.flags) (seen_marks messages rows) ≡ true → list_all (λ (k : FlagUpdate). are_few k.flags) (chosen b r rows) ≡ true
      by true e = e
      by false e = e

-- no shared event
none_shared : (n left : ℕ) → n ≡ 0 → 0 + (n + 0) ≤ left
none_shared n left none = omega (arith, none)

-- ---- what is asked

abbrev batch_with : List ℕ → List FlagUpdate → Batch
batch_with user marks = record { user = user; added = []; marks = marks; expunged = [] }

module _ (view : View) (name : Name) (messages : List Numbered) (mailbox : Readable) (viewed : IsViewed view) (e : readable_in view name ≡ Some mailbox) where
  changes : ChangesRows (batch_with view.user (seen_marks messages mailbox.rows)) mailbox
  changes =
      let rise = rows_rise view viewed name mailbox e in
      let unread = is_unread messages in
      record {
        none = refl;
        keywords = few_keywords messages mailbox.rows;
        events = none_shared (flag_count (seen_marks messages mailbox.rows)) _ (no_flags messages mailbox.rows);
        marked =
            ap (λ uids. are_known 0 uids (row_uids mailbox.rows)) (uids_of_marks (filter unread mailbox.rows))
            ∙ chosen_known unread 0 1 rise.0 mailbox.rows (omega arith) rise.1;
        expunged = refl;
      }

  by_marks : (marks : List FlagUpdate) → seen_marks messages mailbox.rows ≡ marks → MayBeAsked view (marking_effect view.user name marks)
  by_marks [] is = tt
  by_marks (k ∷ marks) is = (
    may_change view viewed name mailbox (batch_with view.user (k ∷ marks))
        (subst (λ (ms : List FlagUpdate). ChangesRows (batch_with view.user ms) mailbox) is changes) e refl,
    tt,
  )

pub may_read : (view : View) (name : Name) (messages : List Numbered) (mailbox : Readable) (viewed : IsViewed view) (sets : Bool) → readable_in view name ≡ Some mailbox
    → MayBeAsked view (read_effect sets view.user name messages mailbox.rows)
may_read view name messages mailbox viewed true e = by_marks view name messages mailbox viewed e (seen_marks messages mailbox.rows) refl
may_read view name messages mailbox viewed false e = tt
