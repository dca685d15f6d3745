-- The answer asks nothing of the mailboxes.
use Rattle.std.proofs.Common.{ℕ, Bool, true, false, cond, not, List, Option, Some, None, refl}
use Rattle.imap_answer.specs.Alike.{AnswersAlike}
use Rattle.imap_answer.specs.Answer.{refusal}
use Rattle.imap_answer.specs.Fit.{IsFit}
use Rattle.imap_answer.proofs.Alike.{answers_alike}
use Rattle.imap_answer.proofs.Fits.{fits_alone, fits_enabling}
use Rattle.imap_print.specs.declared.response.Refusal.TheVariants.{BadCharset, Cannot, Malformed}
use Rattle.imap_targets.specs.State.{Selection, SessionState}
use Rattle.imap_view.specs.declared.readable.Readable.{Readable}
use Rattle.imap_view.specs.Readable.{readable_in}
use Rattle.imap_view.specs.View.{View}
use Rattle.imap_search.specs.Search.{SearchArguments, is_impossible, is_known_charset, is_malformed, search_answer, search_if_readable, search_if_selected}

module _ (view : View) (tag : List ℕ) (arguments : SearchArguments) where
  readable_fits : (s : Selection) (mailbox : Option Readable) → IsFit view (search_if_readable tag arguments s mailbox)
  readable_fits s None = fits_alone view _ _ refl
  readable_fits s (Some mailbox) = fits_enabling view _ _ refl (fits_alone view _ _ refl)

  selected_by : (s : Selection) (malformed charset impossible : Bool)
      → IsFit view (cond malformed (refusal tag Malformed) (cond (not charset) (refusal tag BadCharset) (cond impossible (refusal tag Cannot) (search_if_readable tag arguments s (readable_in view s.name)))))
  selected_by s true charset impossible = fits_alone view _ _ refl
  selected_by s false false impossible = fits_alone view _ _ refl
  selected_by s false true true = fits_alone view _ _ refl
  selected_by s false true false = readable_fits s (readable_in view s.name)

pub search_fits : (view : View) (own : SessionState) (tag : List ℕ) (arguments : SearchArguments) → IsFit view (search_answer view own tag arguments)
search_fits view own tag arguments = by own.selected
  where
    by : (s : Option Selection) → IsFit view (search_if_selected view tag arguments s)
    by None = fits_alone view _ _ refl
    by (Some s) = selected_by view tag arguments s (is_malformed _ arguments.keys) (is_known_charset arguments.charset) (is_impossible arguments)

pub search_alike : (own : SessionState) (tag : List ℕ) (arguments : SearchArguments) → AnswersAlike (λ view. search_answer view own tag arguments)
search_alike own tag arguments = answers_alike (λ view. search_answer view own tag arguments) (λ view. search_fits view own tag arguments)
