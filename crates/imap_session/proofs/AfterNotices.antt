-- What a session knows after it was told what notices find.
use Rattle.std.proofs.Common.{◌≡◌, ℕ, eqb, not, ◌&&◌, Bool, true, false, cond, List, [], ◌∷◌, length, Some, None, IfSome, option_map, refl, sym, ap, subst, ◌∙◌, arith}
use Rattle.std.proofs.lemmas.Bool.{eqb-true, and_parts}
use Rattle.std.proofs.lemmas.List.{append-nil}
use Rattle.imap_mailbox.specs.Brought.{highest_in}
use Rattle.imap_mailbox.specs.Rows.{Row}
use Rattle.imap_mailbox.specs.Lent.{row_uids}
use Rattle.imap_mailbox.specs.Order.{AreAtMost}
use Rattle.imap_mailbox.specs.Shown.{Content}
use Rattle.imap_mailbox.specs.Summary.{AreRising}
use Rattle.imap_session.specs.ByUid.{IsBroughtByUid}
use Rattle.imap_session.specs.declared.options.NoticeOptions.{NoticeOptions}
use Rattle.imap_session.specs.Compared.{comparisons, new_rows, known_after}
use Rattle.imap_session.specs.declared.delta.Delta.{Delta}
use Rattle.imap_session.specs.Delta.{applied, without_uids, IsDeltaOf}
use Rattle.imap_session.specs.InStep.{IsInStep}
use Rattle.imap_session.specs.Notices.{expunged_uids}
use Rattle.imap_session.specs.State.{Selection, with_telling}
use Rattle.imap_session.specs.Telling.{Telling, difference, if_any, is_empty, known_with, telling_of, IsTellingOf}
use Rattle.imap_session.specs.Told.{IsSelectedInStep, KnowsRows, selection_after, NotesWhatIsTold, NoticesKeepSelectionInStep, UntoldIsSilent, SelectingIsInStep, selection_telling}
use Rattle.imap_session.proofs.Applying.{changes_are_applied, without_none}
use Rattle.imap_session.proofs.ByUid.{all_told_by_uid}
use Rattle.imap_session.proofs.Differing.{rows_told}
use Rattle.imap_session.proofs.Kept.{notices_keep_in_step, told_is_there}
use Rattle.imap_session.proofs.Quieting.{quiet_lines}
use Rattle.imap_session.proofs.Telling.{step_rises}
use Rattle.imap_mailbox.specs.Rows.{first_uid}
use Rattle.imap_session.specs.Held.{uid_limit}

-- ---- a change that changes nothing

nil_of : {X : Type 0} (xs : List X) → length xs ≡ 0 → xs ≡ []
nil_of [] e = refl
nil_of (x ∷ xs) e = absurd (omega (arith, e))

not_true : (b : Bool) → not b ≡ true → b ≡ false
not_true true e = absurd (cc e)
not_true false e = refl

record IsNothing (t : Telling) : Type 0 where
  changed : t.changed ≡ false
  gone : t.gone ≡ []
  added : t.added ≡ []

nothing_is : (t : Telling) → is_empty t ≡ true → IsNothing t
nothing_is t e =
    let first = and_parts (not t.changed) (eqb (length t.gone) 0 && eqb (length t.added) 0) e in
    let second = and_parts (eqb (length t.gone) 0) (eqb (length t.added) 0) first.1 in
    record {
      changed = not_true t.changed first.0;
      gone = nil_of t.gone (eqb-true (length t.gone) 0 second.0);
      added = nil_of t.added (eqb-true (length t.added) 0 second.1);
    }

stays_by : (t : Telling) (uids : List ℕ) → is_empty t ≡ true → known_with t uids ≡ uids
stays_by t uids e =
    let none = nothing_is t e in
    (λ i. applied (none.gone i) (none.added i) uids) ∙ append-nil (without_uids [] uids) ∙ without_none uids

-- ---- the selection afterwards

known_by : (t : Telling) (s : Selection) → (selection_after (if_any t) s).known ≡ known_with t s.known
known_by t s = by (is_empty t) refl
  where
    by : (b : Bool) → is_empty t ≡ b → (selection_after (cond b None (Some t)) s).known ≡ known_with t s.known
    by true e = sym (stays_by t s.known e)
    by false e = refl

in_step_by : (t : Telling) (highest : ℕ) (rows : List Row) (c : Content) (s : Selection)
    → IsSelectedInStep highest rows c s → IsInStep t.up_to highest (known_with t s.known) rows c → IsSelectedInStep highest rows c (selection_after (if_any t) s)
in_step_by t highest rows c s before told = by (is_empty t)
  where
    by : (b : Bool) → IsSelectedInStep highest rows c (selection_after (cond b None (Some t)) s)
    by true = before
    by false = told

pub notices_keep_selection_in_step : NoticesKeepSelectionInStep
notices_keep_selection_in_step o highest rows c s h =
    in_step_by (difference o.expunges s.up_to s.known rows highest) highest rows c s h
    (subst (λ uids. IsInStep highest highest uids rows c) (sym (changes_are_applied o s.known rows (first_uid, uid_limit, step_rises s.up_to highest s.known rows c h)))
    (notices_keep_in_step o.expunges s.up_to highest s.known rows c h))

told_by : (t : Telling) (s : Selection) (rows : List Row) → AreAtMost t.up_to rows → (is_empty t ≡ true → AreAtMost s.up_to rows) → AreAtMost (selection_after (if_any t) s).up_to rows
told_by t s rows most before = by (is_empty t) refl
  where
    by : (b : Bool) → is_empty t ≡ b → AreAtMost (selection_after (cond b None (Some t)) s).up_to rows
    by true e = before e
    by false e = most

nil_rows : (rows : List Row) → row_uids rows ≡ [] → rows ≡ []
nil_rows [] e = refl
nil_rows (r ∷ rows) e = absurd (cc e)

pub notices_tell_selection : (o : NoticeOptions) (highest : ℕ) (rows : List Row) (s : Selection) → o.expunges ≡ true → AreRising s.known → AreAtMost highest rows
    → KnowsRows rows (selection_after (selection_telling o rows highest s) s)
notices_tell_selection o highest rows s may rising most =
    let t = difference o.expunges s.up_to s.known rows highest in
    record {
      uids = known_by t s ∙ changes_are_applied o s.known rows rising ∙ ap (λ b. known_after b s.known rows) may ∙ told_is_there s.known rows;
      told = told_by t s rows most (λ e. let none = nothing_is t e in rows_told s.up_to s.known rows (nil_rows (new_rows s.known rows) none.added) none.changed);
    }

pub notes_what_is_told : NotesWhatIsTold
notes_what_is_told None state s e = e
notes_what_is_told (Some t) state s e = ap (option_map (with_telling t)) e

-- ---- a session that is told nothing

none_empty : (t : Telling) → if_any t ≡ None → is_empty t ≡ true
none_empty t e = by (is_empty t) refl e
  where
    by : (b : Bool) → is_empty t ≡ b → cond b None (Some t) ≡ None → is_empty t ≡ true
    by true is e = is
    by false is e = absurd (cc e)

none_leave : (b : Bool) (us : List ℕ) → cond b us [] ≡ [] → b ≡ true → us ≡ []
none_leave true us e t = e
none_leave false us e t = absurd (cc t)

pub untold_is_silent : UntoldIsSilent
untold_is_silent o told rows highest None e = refl
untold_is_silent o told rows highest (Some s) e =
    let none = nothing_is (difference o.expunges s.up_to s.known rows highest) (none_empty (difference o.expunges s.up_to s.known rows highest) e) in
    quiet_lines o s.up_to told s.known rows (nil_rows (new_rows s.known rows) none.added) none.changed (none_leave o.expunges (expunged_uids (comparisons s.known rows)) none.gone)

-- ---- what is told

pub told_is : (o : NoticeOptions) (up_to : ℕ) (uids : List ℕ) (rows : List Row) (d : Delta) (highest : ℕ) → IsDeltaOf o up_to uids rows d
    → if_any (telling_of d highest) ≡ if_any (difference o.expunges up_to uids rows highest)
told_is o up_to uids rows d highest h = λ i. if_any (record { changed = h.changed i; gone = h.gone i; added = h.added i; up_to = highest })

pub told_fits : (uids : List ℕ) (t : Telling) → IsTellingOf uids t → IfSome (if_any t) (λ t. IsTellingOf uids t)
told_fits uids t h = by (is_empty t)
  where
    by : (b : Bool) → IfSome (cond b None (Some t)) (λ t. IsTellingOf uids t)
    by true = tt
    by false = h

-- ---- a session that selects a mailbox

pub selecting_is_in_step : SelectingIsInStep
selecting_is_in_step name read_only mailbox c shows ends ordered few = record {
  shows = shows;
  ends = ends;
  ordered = ordered;
  brought = subst (λ n. IsBroughtByUid n (row_uids mailbox.rows) c) ends
      (subst (λ rows. IsBroughtByUid (highest_in c) (row_uids rows) c) shows (all_told_by_uid c ordered));
  few = few;
}
