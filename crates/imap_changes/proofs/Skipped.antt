-- A message that STORE skips stays as it was.
use Rattle.std.proofs.Common.{◌≡◌, ℕ, ◌+◌, Bool, true, false, cond, not, ◌||◌, List, [], ◌∷◌, ◌++◌, eqb, Option, Some, None, refl, sym, ap, ◌∙◌, arith}
use Rattle.std.specs.Prelude.{is_some, nat_lt}
use Rattle.std.proofs.lemmas.Bool.{eqb-true, ne_eqb}
use Rattle.imap_batch.specs.declared.batch.FlagUpdate.{FlagUpdate}
use Rattle.imap_batch.specs.Batch.{mark_uids, one_if}
use Rattle.imap_batch.specs.Planned.{own_after, row_marked, rows_marked}
use Rattle.imap_commands.specs.declared.commands.store.StoreSpec.{StoreSpec}
use Rattle.imap_mailbox.specs.declared.flags.SharedFlags.{SharedFlags}
use Rattle.imap_mailbox.specs.Lent.{row_uids}
use Rattle.imap_mailbox.specs.Rows.{Row, first_uid, is_among}
use Rattle.imap_mailbox.specs.Summary.{Rises}
use Rattle.imap_modseq.specs.Numbers.{max_events, number_after}
use Rattle.imap_targets.specs.declared.message_numbers.Numbered.{Numbered}
use Rattle.imap_targets.specs.MessageNumbers.{row_with}
use Rattle.imap_targets.specs.State.{Selection}
use Rattle.imap_changes.specs.declared.store_outcome.StoreOutcome.{StoreOutcome}
use Rattle.imap_changes.specs.Laws.{SkippedMessagesStay}
use Rattle.imap_changes.specs.Store.{marks_of, number_with, stored_all, stored_if_named, stored_of}
use Rattle.imap_changes.proofs.StoreFitting.{marks_known}
use Rattle.imap_changes.proofs.ToldLeft.{marked_uid, rows_after}
use Rattle.imap_targets.specs.UnchangedSince.{is_skipped, unskipped, was_changed}

both_false : (a b : Bool) → (a || b) ≡ false → (a ≡ false) × (b ≡ false)
both_false true b e = absurd (cc e)
both_false false b e = (refl, e)

-- ---- a message without a mark

stays : (shared own uid : ℕ) (marks : List FlagUpdate) (rows : List Row) → is_among uid (mark_uids marks) ≡ false → row_with uid (rows_marked shared own marks rows) ≡ row_with uid rows
stays shared own uid [] rows out = refl
stays shared own uid (k ∷ marks) [] out = refl
stays shared own uid (k ∷ marks) (r ∷ rows) out =
    let parts = both_false (eqb k.uid uid) (is_among uid (mark_uids marks)) out in
    by (eqb k.uid r.uid) refl parts.0 (λ s o. stays s o uid marks rows parts.1) (stays shared own uid (k ∷ marks) rows out)
  where
    later : List Row
    later = rows_marked (shared + one_if (is_some k.flags)) (own_after own k.seen) marks rows

    by : (b : Bool) → eqb k.uid r.uid ≡ b → eqb k.uid uid ≡ false → ((s o : ℕ) → row_with uid (rows_marked s o marks rows) ≡ row_with uid rows)
        → row_with uid (rows_marked shared own (k ∷ marks) rows) ≡ row_with uid rows
        → row_with uid (cond b (row_marked shared own k r ∷ later) (r ∷ rows_marked shared own (k ∷ marks) rows)) ≡ row_with uid (r ∷ rows)
    by true same apart marked others =
        let at : k.uid ≡ r.uid = eqb-true k.uid r.uid same in
        ap (λ u. cond (eqb u uid) (Some (row_marked shared own k r)) (row_with uid later)) (marked_uid shared own k r ∙ sym at)
        ∙ ap (λ b. cond b (Some (row_marked shared own k r)) (row_with uid later)) apart
        ∙ marked (shared + one_if (is_some k.flags)) (own_after own k.seen)
        ∙ sym (ap (λ u. cond (eqb u uid) (Some r) (row_with uid rows)) (sym at) ∙ ap (λ b. cond b (Some r) (row_with uid rows)) apart)
    by false other apart marked others = ap (λ row. cond (eqb r.uid uid) (Some r) row) others

module _ (rights : ℕ) (spec : StoreSpec) (selection : Selection) (messages : List Numbered) where
  abbrev marks_in : List Row → List FlagUpdate
  marks_in rows = marks_of (stored_all rights spec selection messages rows)

  -- a message that isn't named has none
  unmarked : (uid : ℕ) (rows : List Row) → number_with uid messages ≡ None → is_among uid (mark_uids (marks_in rows)) ≡ false
  unmarked uid [] none = refl
  unmarked uid (r ∷ rows) none = by_name (number_with r.uid messages) refl (unmarked uid rows none)
    where
      apart : (n : ℕ) → number_with r.uid messages ≡ Some n → eqb r.uid uid ≡ false
      apart n is = ne_eqb r.uid uid (λ e. let both : Some n ≡ None = sym is ∙ ap (λ u. number_with u messages) e ∙ none in cc both)

      by_change : (m : StoreOutcome) → eqb m.uid uid ≡ false → (f s : Bool) → is_among uid (mark_uids (marks_in rows)) ≡ false
          → is_among uid (mark_uids (cond (f || s) (record { uid = m.uid; flags = cond f (Some m.flags) None; seen = cond s (Some m.seen) None } ∷ []) [] ++ marks_in rows)) ≡ false
      by_change m other true s rest = ap (λ b. b || is_among uid (mark_uids (marks_in rows))) other ∙ rest
      by_change m other false true rest = ap (λ b. b || is_among uid (mark_uids (marks_in rows))) other ∙ rest
      by_change m other false false rest = rest

      by_name : (o : Option ℕ) → number_with r.uid messages ≡ o → is_among uid (mark_uids (marks_in rows)) ≡ false
          → is_among uid (mark_uids (marks_of (stored_if_named rights spec selection o r ++ stored_all rights spec selection messages rows))) ≡ false
      by_name None is rest = rest
      by_name (Some n) is rest =
          let m = stored_of rights spec selection n r in
          by_change m (apart n is) m.flags_change m.seen_changes rest

-- ---- a message that is skipped

not_stored : (since : Option ℕ) (rows : List Row) (m : Numbered) (messages : List Numbered) → is_skipped since rows m ≡ true → number_with m.uid (unskipped since rows messages) ≡ None
not_stored since rows m [] skip = refl
not_stored since rows m (n ∷ messages) skip = by (is_skipped since rows n) refl (not_stored since rows m messages skip)
  where
    others : List Numbered
    others = unskipped since rows messages

    by : (b : Bool) → is_skipped since rows n ≡ b → number_with m.uid others ≡ None → number_with m.uid (cond (not b) (n ∷ others) others) ≡ None
    by true is rest = rest
    by false is rest =
        ap (λ b. cond b (Some n.number) (number_with m.uid others))
        (ne_eqb m.uid n.uid (λ e. let both : true ≡ false = sym skip ∙ ap (λ u. was_changed since (row_with u rows)) e ∙ is in cc both))
        ∙ rest

pub skipped_stay : SkippedMessagesStay
skipped_stay user rights spec selection messages c m ordered skip =
    let named = unskipped spec.unchanged_since c.rows messages in
    let marks = marks_of (stored_all rights spec selection named c.rows) in
    let rises : Rises first_uid c.next (row_uids c.rows) = ordered.uids in
    ap (row_with m.uid) (rows_after user marks c rises (marks_known rights spec selection named 0 first_uid c.next c.rows (omega arith) rises))
    ∙ stays c.shared c.own m.uid marks c.rows (unmarked rights spec selection named m.uid c.rows (not_stored spec.unchanged_since c.rows m messages skip))
