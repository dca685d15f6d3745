-- What STORE tells is what it leaves.
use Rattle.std.proofs.Common.{◌≡◌, ℕ, ◌+◌, ◌<◌, ◌≤◌, Bool, true, false, cond, eqb, not, ◌||◌, List, [], ◌∷◌, ◌++◌, append-nil, Option, Some, None, refl, sym, ap, ◌∙◌, arith}
use Rattle.std.specs.Prelude.{is_some, nat_lt}
use Rattle.std.proofs.lemmas.Bool.{eq-eqb, lt-ltb, ne_eqb}
use Rattle.imap_batch.specs.declared.batch.FlagUpdate.{FlagUpdate}
use Rattle.imap_batch.specs.Batch.{are_known, mark_uids, one_if}
use Rattle.imap_batch.specs.Planned.{own_after, row_marked, row_with_flags, row_with_seen, rows_left, rows_marked}
use Rattle.imap_batch.specs.Seen.{content_batched}
use Rattle.imap_batch.proofs.Known.{known_within}
use Rattle.imap_batch.proofs.Planning.{is_planned}
use Rattle.imap_commands.specs.declared.commands.store.StoreSpec.{StoreSpec}
use Rattle.imap_mailbox.specs.declared.flags.SharedFlags.{SharedFlags}
use Rattle.imap_mailbox.specs.declared.known.KnownMessage.{KnownMessage}
use Rattle.imap_mailbox.specs.Brought.{highest_in, told_of}
use Rattle.imap_mailbox.specs.Calls.{is_same, same_flags}
use Rattle.imap_mailbox.specs.Lent.{row_uids}
use Rattle.imap_mailbox.specs.Rows.{Row, first_uid}
use Rattle.imap_mailbox.specs.Shown.{Content}
use Rattle.imap_mailbox.specs.Summary.{Rises}
use Rattle.imap_mailbox.proofs.Rising.{rises_end}
use Rattle.imap_mailbox.proofs.Sameness.{flags_are_tested}
use Rattle.imap_modseq.specs.Numbers.{highest_after, max_events, number_after}
use Rattle.imap_print.specs.declared.response.Response.{Response}
use Rattle.imap_targets.specs.declared.message_numbers.Numbered.{Numbered}
use Rattle.imap_targets.specs.State.{Selection}
use Rattle.imap_changes.specs.declared.store_outcome.StoreOutcome.{StoreOutcome}
use Rattle.imap_changes.specs.Laws.{SilentStoreTellsOthersChanges, StoreTellsWhatItLeaves, line_if_named, lines_if_named, lines_left, lines_of, marking}
use Rattle.imap_changes.specs.Store.{full_line, is_behind, lines_from, marks_of, number_with, seen_changes, short_line, stored_all, stored_if_named, stored_of}
use Rattle.imap_changes.proofs.StoreFitting.{marks_known}

not_false : (b : Bool) → not b ≡ false → b ≡ true
not_false true e = refl
not_false false e = absurd (cc e)

bools_are : (a b : Bool) → is_same a b ≡ true → a ≡ b
bools_are true true e = refl
bools_are true false e = absurd (cc e)
bools_are false true e = absurd (cc e)
bools_are false false e = refl

none_left : (rows : List Row) → rows_left [] rows ≡ rows
none_left [] = refl
none_left (r ∷ rows) = ap (λ rs. r ∷ rs) (none_left rows)

-- marks of greater UIDs pass over a row
skipped : (shared own low high : ℕ) (r : Row) (marks : List FlagUpdate) (rows : List Row) → r.uid < low → Rises low high (mark_uids marks)
    → rows_marked shared own marks (r ∷ rows) ≡ r ∷ rows_marked shared own marks rows
skipped shared own low high r [] rows lt h = refl
skipped shared own low high r (k ∷ marks) rows lt h =
    let at : low ≤ k.uid = h.0 in
    ap (λ b. cond b (row_marked shared own k r ∷ rows_marked (shared + one_if (is_some k.flags)) (own_after own k.seen) marks rows) (r ∷ rows_marked shared own (k ∷ marks) rows))
    (ne_eqb k.uid r.uid (λ e. omega (arith, e, at, lt)))

module _ (rights : ℕ) (spec : StoreSpec) (selection : Selection) (silent condstore : Bool) (messages : List Numbered) where
  abbrev stored : List Row → List StoreOutcome
  stored rows = stored_all rights spec selection messages rows

  rise : (low high : ℕ) (rows : List Row) → Rises low high (row_uids rows) → Rises low high (mark_uids (marks_of (stored rows)))
  rise low high rows h =
      known_within low low high (mark_uids (marks_of (stored rows))) (row_uids rows) (rises_end low high (row_uids rows) h) h (marks_known rights spec selection messages low low high rows (omega arith) h)

  abbrev Left : (before after : List Row) → List Response
  Left = lines_left silent condstore selection messages

  -- what is told of a message, as it was and as it is
  abbrev tell : Row → ℕ → KnownMessage → List Response
  tell r n k = cond (not silent || is_behind selection r) (full_line condstore n k ∷ []) (cond condstore (short_line n k ∷ []) [])

  -- a message that is named, and those after it
  joined : (n : ℕ) (r : Row) → number_with r.uid messages ≡ Some n → (left : Row) (k : KnownMessage) → k ≡ told_of left
      → (lines : List Response) (rows after : List Row) → lines ≡ Left rows after → tell r n k ++ lines ≡ Left (r ∷ rows) (left ∷ after)
  joined n r e left k told lines rows after rest =
      (λ i. tell r n (told i) ++ rest i)
      ∙ ap (λ o. lines_if_named silent condstore selection o r left ++ Left rows after) (sym e)

  module _ (shared own before high : ℕ) (r : Row) (rows : List Row) (is : before ≡ highest_after shared own) (h : Rises (r.uid + 1) high (row_uids rows)) where
    abbrev Later : Type 0
    Later = (s o b : ℕ) → b ≡ highest_after s o → o + seen_changes (stored rows) ≤ max_events
        → lines_from silent condstore b (stored rows) ≡ Left rows (rows_marked s o (marks_of (stored rows)) rows)

    abbrev marks : List FlagUpdate
    marks = marks_of (stored rows)

    skip : rows_marked shared own marks (r ∷ rows) ≡ r ∷ rows_marked shared own marks rows
    skip = skipped shared own (r.uid + 1) high r marks rows (omega arith) (rise (r.uid + 1) high rows h)

    -- a mark of the row
    at_row : (flags : Option SharedFlags) (seen : Option Bool) → rows_marked shared own (record { uid = r.uid; flags = flags; seen = seen } ∷ marks) (r ∷ rows)
        ≡ row_marked shared own (record { uid = r.uid; flags = flags; seen = seen }) r ∷ rows_marked (shared + one_if (is_some flags)) (own_after own seen) marks rows
    at_row flags seen =
        let k : FlagUpdate = record { uid = r.uid; flags = flags; seen = seen } in
        ap (λ b. cond b (row_marked shared own k r ∷ rows_marked (shared + one_if (is_some flags)) (own_after own seen) marks rows) (r ∷ rows_marked shared own (k ∷ marks) rows))
        (eq-eqb r.uid r.uid refl)

    module _ (n : ℕ) (e : number_with r.uid messages ≡ Some n) where
      abbrev m : StoreOutcome
      m = stored_of rights spec selection n r

      same_flags_left : m.flags_change ≡ false → m.flags ≡ r.flags
      same_flags_left kept = sym ((flags_are_tested r.flags m.flags).0 (not_false (same_flags r.flags m.flags) kept))

      same_seen_left : m.seen_changes ≡ false → m.seen ≡ r.seen
      same_seen_left kept = sym (bools_are r.seen m.seen (not_false (is_same r.seen m.seen) kept))

      abbrev told : Bool → Bool → KnownMessage
      told f s = record { uid = r.uid; flags = m.flags; seen = m.seen; number = cond (f || s) (before + (one_if f + one_if s)) r.number }

      abbrev mark : Bool → Bool → List FlagUpdate
      mark f s = cond (f || s) (record { uid = r.uid; flags = cond f (Some m.flags) None; seen = cond s (Some m.seen) None } ∷ []) []

      -- a row that got other flags, and then its mark of `\Seen`
      abbrev with_seen : (f : Option SharedFlags) (z : Bool) → List Row
      with_seen f z =
          let flagged : Row = row_with_flags (number_after shared own) f r in
          cond z (record { uid = flagged.uid; date = flagged.date; octets = flagged.octets; flags = flagged.flags; seen = m.seen; number = number_after (shared + one_if (is_some f)) own }) flagged
          ∷ rows_marked (shared + one_if (is_some f)) (cond z (own + 1) own) marks rows

      seen_marked : (f : Option SharedFlags) → own + 1 ≤ max_events → rows_marked shared own (record { uid = r.uid; flags = f; seen = Some m.seen } ∷ marks) (r ∷ rows) ≡ with_seen f true
      seen_marked f few = at_row f (Some m.seen) ∙ ap (with_seen f) (lt-ltb own max_events (omega (arith, few)))

      by_change : (f s : Bool) → m.flags_change ≡ f → m.seen_changes ≡ s → own + (one_if s + seen_changes (stored rows)) ≤ max_events → Later
          → tell r n (told f s) ++ lines_from silent condstore (before + (one_if f + one_if s)) (stored rows) ≡ Left (r ∷ rows) (rows_marked shared own (mark f s ++ marks) (r ∷ rows))
      by_change false false fs ss few later =
          joined n r e r (told false false) (λ i. record { uid = r.uid; flags = same_flags_left fs i; seen = same_seen_left ss i; number = r.number })
          (lines_from silent condstore (before + (0 + 0)) (stored rows)) rows (rows_marked shared own marks rows)
          (later shared own (before + (0 + 0)) (omega (arith, is)) (omega (arith, few)))
          ∙ ap (Left (r ∷ rows)) (sym skip)
      by_change true false fs ss few later =
          let left : Row = record { uid = r.uid; date = r.date; octets = r.octets; flags = m.flags; seen = r.seen; number = number_after shared own } in
          let number : before + (1 + 0) ≡ number_after shared own = omega (arith, is) in
          joined n r e left (told true false) (λ i. record { uid = r.uid; flags = m.flags; seen = same_seen_left ss i; number = number i })
          (lines_from silent condstore (before + (1 + 0)) (stored rows)) rows (rows_marked (shared + 1) own marks rows)
          (later (shared + 1) own (before + (1 + 0)) (omega (arith, is)) (omega (arith, few)))
          ∙ ap (Left (r ∷ rows)) (sym (at_row (Some m.flags) None))
      by_change false true fs ss few later =
          let left : Row = record { uid = r.uid; date = r.date; octets = r.octets; flags = r.flags; seen = m.seen; number = number_after (shared + 0) own } in
          let number : before + (0 + 1) ≡ number_after (shared + 0) own = omega (arith, is) in
          joined n r e left (told false true) (λ i. record { uid = r.uid; flags = same_flags_left fs i; seen = m.seen; number = number i })
          (lines_from silent condstore (before + (0 + 1)) (stored rows)) rows (rows_marked (shared + 0) (own + 1) marks rows)
          (later (shared + 0) (own + 1) (before + (0 + 1)) (omega (arith, is)) (omega (arith, few)))
          ∙ ap (Left (r ∷ rows)) (sym (seen_marked None (omega (arith, few))))
      by_change true true fs ss few later =
          let left : Row = record { uid = r.uid; date = r.date; octets = r.octets; flags = m.flags; seen = m.seen; number = number_after (shared + 1) own } in
          let number : before + (1 + 1) ≡ number_after (shared + 1) own = omega (arith, is) in
          joined n r e left (told true true) (λ i. record { uid = r.uid; flags = m.flags; seen = m.seen; number = number i })
          (lines_from silent condstore (before + (1 + 1)) (stored rows)) rows (rows_marked (shared + 1) (own + 1) marks rows)
          (later (shared + 1) (own + 1) (before + (1 + 1)) (omega (arith, is)) (omega (arith, few)))
          ∙ ap (Left (r ∷ rows)) (sym (seen_marked (Some m.flags) (omega (arith, few))))

    by_name : (o : Option ℕ) → number_with r.uid messages ≡ o → own + seen_changes (stored_if_named rights spec selection o r ++ stored rows) ≤ max_events → Later
        → lines_from silent condstore before (stored_if_named rights spec selection o r ++ stored rows) ≡ Left (r ∷ rows) (rows_marked shared own (marks_of (stored_if_named rights spec selection o r ++ stored rows)) (r ∷ rows))
    by_name None e few later =
        later shared own before is few
        ∙ ap (λ o. lines_if_named silent condstore selection o r r ++ Left rows (rows_marked shared own marks rows)) (sym e)
        ∙ ap (Left (r ∷ rows)) (sym skip)
    by_name (Some n) e few later = by_change n e (stored_of rights spec selection n r).flags_change (stored_of rights spec selection n r).seen_changes refl refl few later

  walk : (shared own before low high : ℕ) (rows : List Row) → before ≡ highest_after shared own → Rises low high (row_uids rows) → own + seen_changes (stored rows) ≤ max_events
      → lines_from silent condstore before (stored rows) ≡ Left rows (rows_marked shared own (marks_of (stored rows)) rows)
  walk shared own before low high [] is h few = refl
  walk shared own before low high (r ∷ rows) is h few =
      by_name shared own before high r rows is h.1 (number_with r.uid messages) refl few (λ s o b same less. walk s o b (r.uid + 1) high rows same h.1 less)

-- the rows after marks of messages that are there
pub rows_after : (user : List ℕ) (marks : List FlagUpdate) (c : Content) → Rises first_uid c.next (row_uids c.rows) → are_known 0 (mark_uids marks) (row_uids c.rows) ≡ true
    → (content_batched (marking user marks) c).rows ≡ rows_marked c.shared c.own marks c.rows
rows_after user marks c rises known =
    let shared : c.shared + 0 ≡ c.shared = omega arith in
    is_planned (marking user marks) c rises known refl
    ∙ append-nil (rows_left [] (rows_marked (c.shared + 0) c.own marks c.rows)) ∙ none_left (rows_marked (c.shared + 0) c.own marks c.rows) ∙ ap (λ n. rows_marked n c.own marks c.rows) shared

-- ---- marks leave the UIDs

flags_uid : (number : ℕ) (flags : Option SharedFlags) (r : Row) → (row_with_flags number flags r).uid ≡ r.uid
flags_uid number None r = refl
flags_uid number (Some flags) r = refl

seen_uid : (own number : ℕ) (seen : Option Bool) (r : Row) → (row_with_seen own number seen r).uid ≡ r.uid
seen_uid own number None r = refl
seen_uid own number (Some seen) r = by (nat_lt own max_events)
  where
    changed : Row
    changed = record { uid = r.uid; date = r.date; octets = r.octets; flags = r.flags; seen = seen; number = number }

    by : (b : Bool) → (cond b changed r).uid ≡ r.uid
    by true = refl
    by false = refl

pub marked_uid : (shared own : ℕ) (k : FlagUpdate) (r : Row) → (row_marked shared own k r).uid ≡ r.uid
marked_uid shared own k r =
    seen_uid own (number_after (shared + one_if (is_some k.flags)) own) k.seen (row_with_flags (number_after shared own) k.flags r)
    ∙ flags_uid (number_after shared own) k.flags r

marked_uids : (shared own : ℕ) (updates : List FlagUpdate) (rows : List Row) → row_uids rows ≡ row_uids (rows_marked shared own updates rows)
marked_uids shared own [] rows = refl
marked_uids shared own (k ∷ updates) [] = refl
marked_uids shared own (k ∷ updates) (r ∷ rows) = by (eqb k.uid r.uid) (marked_uids (shared + one_if (is_some k.flags)) (own_after own k.seen) updates rows) (marked_uids shared own (k ∷ updates) rows)
  where
    later : List Row
    later = rows_marked (shared + one_if (is_some k.flags)) (own_after own k.seen) updates rows

    by : (b : Bool) → row_uids rows ≡ row_uids later → row_uids rows ≡ row_uids (rows_marked shared own (k ∷ updates) rows)
        → r.uid ∷ row_uids rows ≡ row_uids (cond b (row_marked shared own k r ∷ later) (r ∷ rows_marked shared own (k ∷ updates) rows))
    by true here other = λ i. sym (marked_uid shared own k r) i ∷ here i
    by false here other = ap (λ us. r.uid ∷ us) other

-- a line of each that is named
all_told : (condstore : Bool) (selection : Selection) (messages : List Numbered) (before after : List Row) → row_uids before ≡ row_uids after
    → lines_left false condstore selection messages before after ≡ lines_of condstore messages after
all_told condstore selection messages [] [] same = refl
all_told condstore selection messages [] (a ∷ after) same = absurd (cc same)
all_told condstore selection messages (b ∷ before) [] same = absurd (cc same)
all_told condstore selection messages (b ∷ before) (a ∷ after) same =
    let uid : b.uid ≡ a.uid = cc same in
    let rest : row_uids before ≡ row_uids after = cc same in
    ap (λ u. lines_if_named false condstore selection (number_with u messages) b a ++ lines_left false condstore selection messages before after) uid
    ∙ by (number_with a.uid messages) (all_told condstore selection messages before after rest)
  where
    by : (o : Option ℕ) → lines_left false condstore selection messages before after ≡ lines_of condstore messages after
        → lines_if_named false condstore selection o b a ++ lines_left false condstore selection messages before after ≡ line_if_named condstore o a ++ lines_of condstore messages after
    by None rest = rest
    by (Some n) rest = ap (λ lines. full_line condstore n (told_of a) ∷ lines) rest

pub told_by_any : SilentStoreTellsOthersChanges
told_by_any user rights spec selection silent condstore messages c ordered few =
    let marks : List FlagUpdate = marks_of (stored_all rights spec selection messages c.rows) in
    let rises : Rises first_uid c.next (row_uids c.rows) = ordered.uids in
    walk rights spec selection silent condstore messages c.shared c.own (highest_in c) first_uid c.next c.rows refl rises few
    ∙ ap (lines_left silent condstore selection messages c.rows) (sym (rows_after user marks c rises (marks_known rights spec selection messages 0 first_uid c.next c.rows (omega arith) rises)))

pub told_as_left : StoreTellsWhatItLeaves
told_as_left user rights spec selection condstore messages c ordered few =
    let marks : List FlagUpdate = marks_of (stored_all rights spec selection messages c.rows) in
    let rises : Rises first_uid c.next (row_uids c.rows) = ordered.uids in
    let known = marks_known rights spec selection messages 0 first_uid c.next c.rows (omega arith) rises in
    told_by_any user rights spec selection false condstore messages c ordered few
    ∙ all_told condstore selection messages c.rows (content_batched (marking user marks) c).rows
    (marked_uids c.shared c.own marks c.rows ∙ ap row_uids (sym (rows_after user marks c rises known)))
