-- The messages that a command names.
use Rattle.std.proofs.Common.{◌≡◌, ℕ, ◌+◌, ◌<◌, ◌≤◌, Bool, true, false, cond, ◌||◌, ◌&&◌, not, List, [], ◌∷◌, ◌++◌, append_assoc, length, get_or, drop, drop-cons, add-one, Option, Some, None, is_some, refl, sym, ap, subst, ◌∙◌, arith}
use Rattle.std.specs.Prelude.{nat_lt}
use Rattle.std.specs.List.{AllByRecursion, list_any}
use Rattle.std.proofs.lemmas.Bool.{ltb-true, not-true}
use Rattle.std.proofs.lemmas.List.{append-nil}
use Rattle.imap_mailbox.specs.Rows.{Row}
use Rattle.imap_syntax.specs.declared.set.Numbering.{Numbering}
use Rattle.imap_syntax.specs.declared.set.SeqRange.{SeqRange}
use Rattle.imap_messages.specs.declared.reading.Reading.{Reading}
use Rattle.imap_messages.specs.Changed.{AreSkipped, changed_of, is_changed, is_left}
use Rattle.imap_messages.specs.Fetched.{Wanted}
use Rattle.imap_messages.specs.Found.{IsReading, marks_named}
use Rattle.imap_targets.specs.declared.message_numbers.Numbered.{Numbered}
use Rattle.imap_targets.specs.MessageNumbers.{in_set, is_gone, is_refused, messages_from, number_by, row_with}
use Rattle.imap_messages.specs.Reading.{IsAdded, count_after, is_set, line_if_there, lines_from, marks_if_there, uid_told, uids_told}
use Rattle.imap_modseq.specs.Numbers.{max_events}
use Rattle.imap_print.specs.Lines.{IsPrintable}
use Rattle.imap_view.specs.declared.readable.Readable.{Readable}

-- ---- along the known list

distribute : (a b c : Bool) → (a && b) ≡ false → (a && c) ≡ (a && (b || c))
distribute true b c e = ap (λ t. t || c) (sym e)
distribute false b c e = refl

both : (a b c : Bool) → (a && b) ≡ true → (a && (b || c)) ≡ true
both true b c e = ap (λ t. t || c) e
both false b c e = absurd (cc e)

-- one more change is one more mod-sequence
counts_both : (sets : Bool) (own a b h : ℕ) (row : Option Row) → h + a ≡ b + own → count_after sets own row h + a ≡ b + count_after sets own row own
counts_both sets own a b h None e = e
counts_both sets own a b h (Some row) e = by (is_set sets own row)
  where
    by : (x : Bool) → cond x (h + 1) h + a ≡ b + cond x (own + 1) own
    by true = omega (arith, e)
    by false = e

counts_few : (sets : Bool) (own : ℕ) (row : Option Row) → own ≤ max_events → count_after sets own row own ≤ max_events
counts_few sets own None few = few
counts_few sets own (Some row) few = by sets row.seen (nat_lt own max_events) refl
  where
    by : (s seen left : Bool) → nat_lt own max_events ≡ left → cond (s && (not seen && left)) (own + 1) own ≤ max_events
    by true false true e = let lt = ltb-true own max_events e in omega (arith, lt)
    by true false false e = few
    by true true left e = few
    by false seen left e = few

-- what hasn't changed is there, and isn't told
left_there : (by_uid : Bool) (since : Option ℕ) (row : Option Row) → is_left since row ≡ true → ((not by_uid && not (is_some row)) ≡ false) × (is_changed since row ≡ false)
left_there by_uid None row e = absurd (cc e)
left_there by_uid (Some since) None e = absurd (cc e)
left_there true (Some since) (Some row) e = (refl, not-true _ e)
left_there false (Some since) (Some row) e = (refl, not-true _ e)

-- what isn't left has changed, or is gone
gone_or_changed : (since : Option ℕ) (row : Option Row) → is_left since row ≡ false → is_changed since row ≡ false → row ≡ None
gone_or_changed None row kept low = absurd (cc low)
gone_or_changed (Some since) None kept low = refl
gone_or_changed (Some since) (Some row) kept low = absurd (cc (sym (ap not low) ∙ kept))

module _ (by_uid : Bool) (since : Option ℕ) (wanted : Wanted) (sets : Bool) (mailbox : Readable) (by : Numbering) (last : ℕ) (ranges : List SeqRange) (known : List ℕ) where
  abbrev chosen : List Numbered → List Numbered
  chosen messages = changed_of since mailbox.rows messages

  abbrev named_from : ℕ → List Numbered
  named_from i = messages_from by last ranges (i + 1) (drop i known)

  -- what is found of the messages before the place i, of which none refuses the command
  pub record IsSoFar (i : ℕ) (found : Reading) : Type 0 where
    pub setting : found.sets ≡ sets
    pub numbers : found.highest + mailbox.own ≡ mailbox.highest + found.own
    pub few : found.own ≤ max_events
    pub lines : found.lines.items ++ lines_from wanted sets mailbox.rows found.highest found.own (chosen (named_from i))
        ≡ lines_from wanted sets mailbox.rows mailbox.highest mailbox.own (chosen (messages_from by last ranges 1 known))
    pub marks : found.marks.items ++ marks_named sets mailbox.rows (chosen (named_from i)) ≡ marks_named sets mailbox.rows (chosen (messages_from by last ranges 1 known))
    pub told : found.told.items ++ uids_told wanted sets mailbox.rows found.own (chosen (named_from i)) ≡ uids_told wanted sets mailbox.rows mailbox.own (chosen (messages_from by last ranges 1 known))
    pub refused : is_refused by_uid mailbox.rows (named_from i) ≡ is_refused by_uid mailbox.rows (messages_from by last ranges 1 known)
    pub printable : AllByRecursion IsPrintable found.lines.items

  -- before the first message that may be named nothing is found
  pub at_first : (start : ℕ) (found : Reading) → messages_from by last ranges (start + 1) (drop start known) ≡ messages_from by last ranges 1 known → mailbox.own ≤ max_events
      → found.sets ≡ sets → found.highest ≡ mailbox.highest → found.own ≡ mailbox.own → found.lines.items ≡ [] → found.marks.items ≡ [] → found.told.items ≡ [] → IsSoFar start found
  at_first start found all few sets_is highest own lines marks told = record {
    setting = sets_is;
    numbers = (λ j. highest j + mailbox.own) ∙ ap (λ o. mailbox.highest + o) (sym own);
    few = subst (λ o. o ≤ max_events) (sym own) few;
    lines = (λ j. lines j ++ lines_from wanted sets mailbox.rows (highest j) (own j) (chosen (all j)));
    marks = (λ j. marks j ++ marks_named sets mailbox.rows (chosen (all j)));
    told = (λ j. told j ++ uids_told wanted sets mailbox.rows (own j) (chosen (all j)));
    refused = ap (λ ms. is_refused by_uid mailbox.rows ms) all;
    printable = subst (AllByRecursion IsPrintable) (sym lines) tt;
  }

  -- after the last one all is found
  pub at_last : (end : ℕ) (found : Reading) → messages_from by last ranges (end + 1) (drop end known) ≡ [] → IsSoFar end found → IsReading wanted sets mailbox (changed_of since mailbox.rows (messages_from by last ranges 1 known)) found
  at_last end found none before = record {
    lines = sym (append-nil found.lines.items) ∙ ap (λ ms. found.lines.items ++ lines_from wanted sets mailbox.rows found.highest found.own (chosen ms)) (sym none) ∙ before.lines;
    marks = sym (append-nil found.marks.items) ∙ ap (λ ms. found.marks.items ++ marks_named sets mailbox.rows (chosen ms)) (sym none) ∙ before.marks;
    told = sym (append-nil found.told.items) ∙ ap (λ ms. found.told.items ++ uids_told wanted sets mailbox.rows found.own (chosen ms)) (sym none) ∙ before.told;
    printable = before.printable;
  }

  pub none_refuses : (end : ℕ) (found : Reading) → messages_from by last ranges (end + 1) (drop end known) ≡ [] → IsSoFar end found → false ≡ is_refused by_uid mailbox.rows (messages_from by last ranges 1 known)
  none_refuses end found none before = no_more (not by_uid) ∙ ap (λ ms. is_refused by_uid mailbox.rows ms) (sym none) ∙ before.refused
    where
      no_more : (b : Bool) → false ≡ (b && false)
      no_more true = refl
      no_more false = refl

  -- the message at the place i
  module _ (i n uid : ℕ) (d : ℕ) (within : i < length known) (number : n ≡ i + 1) (is : uid ≡ (get_or known i d)) where
    abbrev message : Numbered
    message = record { number = n; uid = uid }

    abbrev later : List Numbered
    later = messages_from by last ranges (i + 1 + 1) (drop (i + 1) known)

    abbrev front : ℕ → ℕ → List ℕ → List Numbered
    front n uid known = let m : Numbered = record { number = n; uid = uid } in
        cond (in_set last ranges (number_by by m)) (m ∷ messages_from by last ranges (i + 1 + 1) known) (messages_from by last ranges (i + 1 + 1) known)

    ahead : messages_from by last ranges (i + 1) (drop i known) ≡ front n uid (drop (i + 1) known)
    ahead = ap (messages_from by last ranges (i + 1)) (drop-cons known i d within) ∙ λ j. front (sym number j) (sym is j) (drop (sym (add-one i) j) known)

    pub skipped : (found : Reading) → in_set last ranges (number_by by message) ≡ false → IsSoFar i found → IsSoFar (i + 1) found
    skipped found unnamed before =
        let next = ahead ∙ ap (λ b. cond b (message ∷ later) later) unnamed in
        record {
          setting = before.setting;
          numbers = before.numbers;
          few = before.few;
          lines = ap (λ ms. found.lines.items ++ lines_from wanted sets mailbox.rows found.highest found.own (chosen ms)) (sym next) ∙ before.lines;
          marks = ap (λ ms. found.marks.items ++ marks_named sets mailbox.rows (chosen ms)) (sym next) ∙ before.marks;
          told = ap (λ ms. found.told.items ++ uids_told wanted sets mailbox.rows found.own (chosen ms)) (sym next) ∙ before.told;
          refused = ap (λ ms. is_refused by_uid mailbox.rows ms) (sym next) ∙ before.refused;
          printable = before.printable;
        }

    -- it is one of those that are named
    module _ (named : in_set last ranges (number_by by message) ≡ true) (row : Option Row) (there : row ≡ row_with uid mailbox.rows) where
      next : messages_from by last ranges (i + 1) (drop i known) ≡ message ∷ later
      next = ahead ∙ ap (λ b. cond b (message ∷ later) later) named

      gone : not (is_some row) ≡ is_gone mailbox.rows message
      gone = ap (λ o. not (is_some o)) there

      one_chosen : is_changed since row ≡ true → chosen (named_from i) ≡ message ∷ chosen later
      one_chosen above = ap chosen next ∙ ap (λ b. cond b (message ∷ chosen later) (chosen later)) (ap (is_changed since) (sym there) ∙ above)

      none_chosen : is_changed since row ≡ false → chosen (named_from i) ≡ chosen later
      none_chosen low = ap chosen next ∙ ap (λ b. cond b (message ∷ chosen later) (chosen later)) (ap (is_changed since) (sym there) ∙ low)

      refuses_later : (not by_uid && not (is_some row)) ≡ false → is_refused by_uid mailbox.rows later ≡ is_refused by_uid mailbox.rows (named_from i)
      refuses_later kept =
          distribute (not by_uid) (is_gone mailbox.rows message) (list_any (is_gone mailbox.rows) later) (ap (λ b. not by_uid && b) (sym gone) ∙ kept)
          ∙ ap (λ ms. is_refused by_uid mailbox.rows ms) (sym next)

      -- it hasn't changed
      pub left : (found : Reading) → (not by_uid && not (is_some row)) ≡ false → is_changed since row ≡ false → IsSoFar i found → IsSoFar (i + 1) found
      left found kept low before = record {
        setting = before.setting;
        numbers = before.numbers;
        few = before.few;
        lines = ap (λ ms. found.lines.items ++ lines_from wanted sets mailbox.rows found.highest found.own ms) (sym (none_chosen low)) ∙ before.lines;
        marks = ap (λ ms. found.marks.items ++ marks_named sets mailbox.rows ms) (sym (none_chosen low)) ∙ before.marks;
        told = ap (λ ms. found.told.items ++ uids_told wanted sets mailbox.rows found.own ms) (sym (none_chosen low)) ∙ before.told;
        refused = refuses_later kept ∙ before.refused;
        printable = before.printable;
      }

      one_added : (old new : Reading) → (not by_uid && not (is_some row)) ≡ false → is_changed since row ≡ true → IsAdded wanted n row old new → IsSoFar i old → IsSoFar (i + 1) new
      one_added old new kept above made before = record {
        setting = made.sets ∙ before.setting;
        numbers = (λ j. made.highest j + mailbox.own) ∙ counts_both old.sets old.own mailbox.own mailbox.highest old.highest row before.numbers ∙ ap (λ o. mailbox.highest + o) (sym made.own);
        few = subst (λ o. o ≤ max_events) (sym made.own) (counts_few old.sets old.own row before.few);
        lines =
            (λ j. made.lines j ++ lines_from wanted sets mailbox.rows (made.highest j) (made.own j) (chosen later))
            ∙ (λ j. (old.lines.items ++ line_if_there wanted (before.setting j) old.highest old.own n (there j))
            ++ lines_from wanted sets mailbox.rows (count_after (before.setting j) old.own (there j) old.highest) (count_after (before.setting j) old.own (there j) old.own) (chosen later))
            ∙ append_assoc old.lines.items (line_if_there wanted sets old.highest old.own n (row_with uid mailbox.rows))
            (lines_from wanted sets mailbox.rows (count_after sets old.own (row_with uid mailbox.rows) old.highest) (count_after sets old.own (row_with uid mailbox.rows) old.own) (chosen later))
            ∙ ap (λ ms. old.lines.items ++ lines_from wanted sets mailbox.rows old.highest old.own ms) (sym (one_chosen above)) ∙ before.lines;
        marks =
            (λ j. made.marks j ++ marks_named sets mailbox.rows (chosen later))
            ∙ (λ j. (old.marks.items ++ marks_if_there (before.setting j) (there j)) ++ marks_named sets mailbox.rows (chosen later))
            ∙ append_assoc old.marks.items (marks_if_there sets (row_with uid mailbox.rows)) (marks_named sets mailbox.rows (chosen later))
            ∙ ap (λ ms. old.marks.items ++ marks_named sets mailbox.rows ms) (sym (one_chosen above)) ∙ before.marks;
        told =
            (λ j. made.told j ++ uids_told wanted sets mailbox.rows (made.own j) (chosen later))
            ∙ (λ j. (old.told.items ++ uid_told wanted (before.setting j) old.own (there j)) ++ uids_told wanted sets mailbox.rows (count_after (before.setting j) old.own (there j) old.own) (chosen later))
            ∙ append_assoc old.told.items (uid_told wanted sets old.own (row_with uid mailbox.rows)) (uids_told wanted sets mailbox.rows (count_after sets old.own (row_with uid mailbox.rows) old.own) (chosen later))
            ∙ ap (λ ms. old.told.items ++ uids_told wanted sets mailbox.rows old.own ms) (sym (one_chosen above)) ∙ before.told;
        refused = refuses_later kept ∙ before.refused;
        printable = made.printable before.printable;
      }

      none_added : (old new : Reading) → IsAdded wanted n None old new → IsSoFar (i + 1) old → IsSoFar (i + 1) new
      none_added old new made before =
          let lines = made.lines ∙ append-nil old.lines.items in
          let marks = made.marks ∙ append-nil old.marks.items in
          let told = made.told ∙ append-nil old.told.items in
          record {
            setting = made.sets ∙ before.setting;
            numbers = (λ j. made.highest j + mailbox.own) ∙ before.numbers ∙ ap (λ o. mailbox.highest + o) (sym made.own);
            few = subst (λ o. o ≤ max_events) (sym made.own) before.few;
            lines = (λ j. lines j ++ lines_from wanted sets mailbox.rows (made.highest j) (made.own j) (chosen (named_from (i + 1)))) ∙ before.lines;
            marks = (λ j. marks j ++ marks_named sets mailbox.rows (chosen (named_from (i + 1)))) ∙ before.marks;
            told = (λ j. told j ++ uids_told wanted sets mailbox.rows (made.own j) (chosen (named_from (i + 1)))) ∙ before.told;
            refused = before.refused;
            printable = made.printable before.printable;
          }

      -- it wasn't passed over
      pub added : (old new : Reading) → (not by_uid && not (is_some row)) ≡ false → is_left since (row_with uid mailbox.rows) ≡ false → IsAdded wanted n row old new → IsSoFar i old → IsSoFar (i + 1) new
      added old new kept unpassed made before = one_or_none (is_changed since row) refl
        where
          one_or_none : (b : Bool) → is_changed since row ≡ b → IsSoFar (i + 1) new
          one_or_none true e = one_added old new kept e made before
          one_or_none false e =
              let gone = gone_or_changed since row (ap (is_left since) there ∙ unpassed) e in
              none_added old new (subst (λ (r : Option Row). IsAdded wanted n r old new) gone made) (left old kept e before)

      pub missed : (found : Reading) → (not by_uid && not (is_some row)) ≡ true → IsSoFar i found → true ≡ is_refused by_uid mailbox.rows (messages_from by last ranges 1 known)
      missed found refuses before =
          sym (both (not by_uid) (is_gone mailbox.rows message) (list_any (is_gone mailbox.rows) later) (ap (λ b. not by_uid && b) (sym gone) ∙ refuses))
          ∙ ap (λ ms. is_refused by_uid mailbox.rows ms) (sym next) ∙ before.refused

    -- it is there, and hasn't changed
    pub passed : in_set last ranges (number_by by message) ≡ true → (found : Reading) → is_left since (row_with uid mailbox.rows) ≡ true → IsSoFar i found → IsSoFar (i + 1) found
    passed named found kept before =
        let there = left_there by_uid since (row_with uid mailbox.rows) kept in
        left named (row_with uid mailbox.rows) refl found there.0 there.1 before

  -- it refuses nothing and hasn't changed, whether it is named or not
  pub left_over : (i : ℕ) → i < length known → ((d : ℕ) → ((not by_uid && not (is_some (row_with (get_or known i d) mailbox.rows))) ≡ false) × (is_changed since (row_with (get_or known i d) mailbox.rows) ≡ false))
      → (found : Reading) → IsSoFar i found → IsSoFar (i + 1) found
  left_over i within h found before = from known refl
    where
      at : (d : ℕ) (b : Bool) → in_set last ranges (number_by by (record { number = i + 1; uid = (get_or known i d) })) ≡ b → IsSoFar (i + 1) found
      at d true e = left i (i + 1) (get_or known i d) d within refl refl e (row_with (get_or known i d) mailbox.rows) refl found (h d).0 (h d).1 before
      at d false e = skipped i (i + 1) (get_or known i d) d within refl refl found e before

      from : (ks : List ℕ) → ks ≡ known → IsSoFar (i + 1) found
      from [] same = let none = ap length same in absurd (omega (arith, none, within))
      from (k ∷ ks) same = at k (in_set last ranges (number_by by (record { number = i + 1; uid = (get_or known i k) }))) refl

pub skipped_from : (skips : Bool) (since : Option ℕ) (rows : List Row) (known : List ℕ) (i next : ℕ) → AreSkipped skips since rows known i next → AreSkipped skips since rows known (i + 1) next
skipped_from skips since rows known i next h j d from to within = h j d (omega (arith, from)) to within
