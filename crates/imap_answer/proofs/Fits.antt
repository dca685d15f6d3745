-- The forms of an answer that are fit.
use Rattle.std.proofs.Common.{◌≡◌, ℕ, Bool, true, false, cond, List, [], ◌∷◌, ◌++◌, ◌||◌, append_assoc, Option, Some, None, refl, sym, ap, ◌∙◌, true≢false}
use Rattle.std.specs.List.{list_any}
use Rattle.std.proofs.lemmas.List.Folds.{list_any-append}
use Rattle.imap_names.specs.Name.{Name}
use Rattle.imap_print.specs.declared.enabled.EnabledCapabilities.{EnabledCapabilities}
use Rattle.imap_print.specs.declared.response.Code.{Code}
use Rattle.imap_print.specs.declared.response.Response.{Response}
use Rattle.imap_print.specs.declared.response.Refusal.TheVariants.{NonExistent, NoPerm}
use Rattle.imap_view.specs.Rights.{has_any, lookup}
use Rattle.imap_view.specs.After.{MayAsk}
use Rattle.imap_view.specs.View.{View}
use Rattle.imap_view.specs.Effect.{Effect}
use Rattle.imap_answer.specs.Access.{missing_right_refusal}
use Rattle.imap_answer.specs.Answer.{Answer, done_with, done_with_code, enabling, followed_by, lines_of, nothing_enabled, preceded_by, refusal, telling}
use Rattle.imap_answer.specs.Fit.{IsFit, IsViewed, is_refusal, is_unavailable}
use Rattle.imap_answer.specs.Name.{answer_of_name, if_named, name_of_text}

-- nothing is asked for
pub fits_alone : (view : View) (untagged : List Response) (last : Response) → list_any is_unavailable (untagged ++ last ∷ []) ≡ false
    → IsFit view (record { untagged = untagged; last = last; effect = None; enables = nothing_enabled; told = [] })
fits_alone view untagged last available = record { asks = λ _. tt; refused = λ e. (refl, refl, refl); available = available }

-- what is carried out may enable capabilities
pub fits_enabling : (view : View) (enables : EnabledCapabilities) (answer : Answer) → list_any is_refusal (lines_of answer) ≡ false → IsFit view answer → IsFit view (enabling enables answer)
fits_enabling view enables answer done fit = record { asks = fit.asks; refused = λ e. absurd (true≢false (sym e ∙ done)); available = fit.available }

-- what is carried out may tell of messages
pub fits_telling : (view : View) (uids : List ℕ) (answer : Answer) → list_any is_refusal (lines_of answer) ≡ false → IsFit view answer → IsFit view (telling uids answer)
fits_telling view uids answer done fit = record { asks = fit.asks; refused = λ e. absurd (true≢false (sym e ∙ done)); available = fit.available }

-- lines in front that don't pass a test
pub any_preceded : (test : Response → Bool) (front : List Response) (answer : Answer) → list_any test front ≡ false → list_any test (lines_of (preceded_by front answer)) ≡ list_any test (lines_of answer)
any_preceded test front answer absent =
    ap (list_any test) (append_assoc front answer.untagged (answer.last ∷ []))
    ∙ list_any-append test front (lines_of answer) ∙ ap (λ b. b || list_any test (lines_of answer)) absent

-- lines in front that refuse nothing
pub fits_preceded : (view : View) (front : List Response) (answer : Answer) → list_any is_refusal front ≡ false → list_any is_unavailable front ≡ false → IsFit view answer → IsFit view (preceded_by front answer)
fits_preceded view front answer none available fit = record {
  asks = fit.asks;
  refused = λ e. fit.refused (sym (any_preceded is_refusal front answer none) ∙ e);
  available = any_preceded is_unavailable front answer available ∙ fit.available;
}

-- lines behind that don't pass a test
pub any_followed : (test : Response → Bool) (back : List Response) (answer : Answer) → list_any test back ≡ false → list_any test (lines_of (followed_by back answer)) ≡ list_any test (lines_of answer)
any_followed test back answer absent =
    ap (list_any test) (append_assoc answer.untagged back (answer.last ∷ []))
    ∙ list_any-append test answer.untagged (back ++ answer.last ∷ [])
    ∙ ap (λ b. list_any test answer.untagged || b) (list_any-append test back (answer.last ∷ []) ∙ ap (λ b. b || list_any test (answer.last ∷ [])) absent)
    ∙ sym (list_any-append test answer.untagged (answer.last ∷ []))

-- lines behind that refuse nothing
pub fits_followed : (view : View) (back : List Response) (answer : Answer) → list_any is_refusal back ≡ false → list_any is_unavailable back ≡ false → IsFit view answer → IsFit view (followed_by back answer)
fits_followed view back answer none available fit = record {
  asks = fit.asks;
  refused = λ e. fit.refused (sym (any_followed is_refusal back answer none) ∙ e);
  available = any_followed is_unavailable back answer available ∙ fit.available;
}

-- what is asked for may be asked for in each view of a world
pub fits_asking_there : (view : View) (tag : List ℕ) (code : Option Code) (effect : Effect) → (IsViewed view → MayAsk view effect) → IsFit view (done_with_code tag code effect)
fits_asking_there view tag code effect may = record { asks = may; refused = λ e. absurd (true≢false (sym e)); available = refl }

pub fits_asking : (view : View) (tag : List ℕ) (effect : Effect) → MayAsk view effect → IsFit view (done_with tag effect)
fits_asking view tag effect may = record { asks = λ _. may; refused = λ e. absurd (true≢false (sym e)); available = refl }

pub missing_right_fits : (view : View) (tag : List ℕ) (rights : ℕ) → IsFit view (refusal tag (missing_right_refusal rights))
missing_right_fits view tag rights = by (has_any rights lookup)
  where
    by : (b : Bool) → IsFit view (refusal tag (cond b NoPerm NonExistent))
    by true = fits_alone view [] _ refl
    by false = fits_alone view [] _ refl

fits_by_name : (view : View) (tag : List ℕ) (answer : Name → Answer) → ((name : Name) → IsFit view (answer name)) → (name : Option Name) → IsFit view (answer_of_name tag answer name)
fits_by_name view tag answer fit None = fits_alone view [] _ refl
fits_by_name view tag answer fit (Some name) = fit name

pub fits_if_named : (view : View) (tag mailbox : List ℕ) (answer : Name → Answer) → ((name : Name) → IsFit view (answer name)) → IsFit view (if_named view tag mailbox answer)
fits_if_named view tag mailbox answer fit = fits_by_name view tag answer fit (name_of_text view mailbox)
