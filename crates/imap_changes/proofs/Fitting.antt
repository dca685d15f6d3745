-- Each answer is fit.
use Rattle.std.proofs.Common.{◌≡◌, ℕ, ◌+◌, ◌≤◌, Bool, true, false, cond, not, List, [], ◌∷◌, filter, length, zero, suc, take, Option, Some, None, refl, arith}
use Rattle.imap_answer.specs.Alike.{AnswersAlike}
use Rattle.imap_answer.specs.Answer.{carried_out, refusal}
use Rattle.imap_answer.specs.Fit.{IsFit, IsViewed, MayBeAsked}
use Rattle.imap_answer.proofs.Alike.{answers_alike}
use Rattle.imap_answer.proofs.Fits.{fits_alone}
use Rattle.imap_batch.specs.Batch.{are_known}
use Rattle.imap_mailbox.specs.Lent.{row_uids}
use Rattle.imap_print.specs.declared.response.Code.{Code}
use Rattle.imap_print.specs.declared.response.Refusal.TheVariants.{Cannot, NoPerm}
use Rattle.imap_targets.specs.State.{Selection, SessionState}
use Rattle.imap_syntax.specs.declared.set.MessageSet.{MessageSet}
use Rattle.imap_syntax.specs.declared.set.Numbering.TheVariants as numbering
use Rattle.imap_view.specs.declared.readable.Readable.{Readable}
use Rattle.imap_view.specs.Readable.{readable_in}
use Rattle.imap_view.specs.View.{View}
use Rattle.imap_world.specs.declared.effect.Effect.{Effect}
use Rattle.imap_targets.specs.Left.{events_left}
use Rattle.imap_targets.specs.MessageNumbers.{last_of}
use Rattle.imap_targets.proofs.Possible.{chosen_known, may_change, rows_rise, taken_known}
use Rattle.imap_batch.specs.Batch.{expunging}
use Rattle.imap_changes.specs.Expunge.{close_answer, close_effect, close_if_selected, expunge_answer, expunge_code, expunge_effect, expunge_if_readable, expunge_if_selected, expunged_uids, is_saved_set, is_taken, may_expunge}

-- ---- what is asked

taken_few : {X : Type 0} (n : ℕ) (xs : List X) → length (take n xs) ≤ n
taken_few zero xs = omega arith
taken_few (suc n) [] = omega arith
taken_few (suc n) (x ∷ xs) = let rest = taken_few n xs in omega (arith, rest)

-- the events of a batch that only expunges
few_events : (n left : ℕ) → n ≤ left → 0 + (0 + n) ≤ left
few_events n left le = omega (arith, le)

module _ (view : View) (s : Selection) (mailbox : Readable) (e : readable_in view s.name ≡ Some mailbox) where
  by_uids : IsViewed view → (uids : List ℕ) → length uids ≤ events_left mailbox → are_known 0 uids (row_uids mailbox.rows) ≡ true → MayBeAsked view (expunge_effect view.user s.name uids)
  by_uids viewed [] few known = tt
  by_uids viewed (uid ∷ uids) few known = (
    may_change view viewed s.name mailbox (expunging view.user (uid ∷ uids))
        (record { none = refl; keywords = refl; events = few_events (length (uid ∷ uids)) (events_left mailbox) few; marked = refl; expunged = known }) e refl,
    tt,
  )

  -- the user may expunge the messages
  may_ask : (set : Option MessageSet) → IsViewed view → MayBeAsked view (expunge_effect view.user s.name (expunged_uids set s.known mailbox))
  may_ask set viewed =
      let taken = is_taken set (last_of numbering.Uid mailbox.next_uid s.known) s.known in
      let left = events_left mailbox in
      let uids = row_uids (filter taken mailbox.rows) in
      let rise = rows_rise view viewed s.name mailbox e in
      by_uids viewed (take left uids) (taken_few left uids)
      (taken_known left 0 uids (row_uids mailbox.rows) (chosen_known taken 0 1 rise.0 mailbox.rows (omega arith) rise.1))

-- ---- answers

module _ (view : View) (tag : List ℕ) where
  made : (code : Option Code) (effect : Option Effect) → (IsViewed view → MayBeAsked view effect) → IsFit view (carried_out [] tag code effect)
  made code effect may = record { asks = may; refused = λ e. absurd (cc e); available = refl }

  module _ (qresync : Bool) (set : Option MessageSet) (s : Selection) where
    readable_fits : (mailbox : Option Readable) → readable_in view s.name ≡ mailbox → IsFit view (expunge_if_readable view qresync tag set s mailbox)
    readable_fits None e = fits_alone view _ _ refl
    readable_fits (Some mailbox) e = made (expunge_code qresync mailbox (expunged_uids set s.known mailbox)) _ (may_ask view s mailbox e set)

    selected_by : (saved may : Bool) → IsFit view (cond saved (refusal tag Cannot) (cond (not may) (refusal tag NoPerm) (expunge_if_readable view qresync tag set s (readable_in view s.name))))
    selected_by true may = fits_alone view _ _ refl
    selected_by false false = fits_alone view _ _ refl
    selected_by false true = readable_fits (readable_in view s.name) refl

  close_by : (s : Selection) (mailbox : Option Readable) → readable_in view s.name ≡ mailbox → IsFit view (carried_out [] tag None (close_effect view s mailbox))
  close_by s None e = made None None (λ _. tt)
  close_by s (Some mailbox) e = either (may_expunge view s)
    where
      either : (may : Bool) → IsFit view (carried_out [] tag None (cond may (expunge_effect view.user s.name (expunged_uids None s.known mailbox)) None))
      either true = made None _ (may_ask view s mailbox e None)
      either false = made None None (λ _. tt)

pub expunge_fits : (view : View) (own : SessionState) (tag : List ℕ) (set : Option MessageSet) → IsFit view (expunge_answer view own tag set)
expunge_fits view own tag set = by own.selected
  where
    by : (s : Option Selection) → IsFit view (expunge_if_selected view own.enabled.qresync tag set s)
    by None = fits_alone view _ _ refl
    by (Some s) = selected_by view tag own.enabled.qresync set s (is_saved_set set) (may_expunge view s)

pub close_fits : (view : View) (own : SessionState) (tag : List ℕ) → IsFit view (close_answer view own tag)
close_fits view own tag = by own.selected
  where
    by : (s : Option Selection) → IsFit view (close_if_selected view tag s)
    by None = fits_alone view _ _ refl
    by (Some s) = close_by view tag s (readable_in view s.name) refl

-- ---- alike

pub expunge_alike : (own : SessionState) (tag : List ℕ) (set : Option MessageSet) → AnswersAlike (λ view. expunge_answer view own tag set)
expunge_alike own tag set = answers_alike (λ view. expunge_answer view own tag set) (λ view. expunge_fits view own tag set)

pub close_alike : (own : SessionState) (tag : List ℕ) → AnswersAlike (λ view. close_answer view own tag)
close_alike own tag = answers_alike (λ view. close_answer view own tag) (λ view. close_fits view own tag)
