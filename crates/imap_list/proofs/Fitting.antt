-- Each answer is fit.
use Rattle.std.proofs.Common.{◌≡◌, ℕ, Bool, true, false, cond, List, [], ◌∷◌, ◌++◌, append_assoc, Option, Some, None, refl, ap, ◌∙◌}
use Rattle.std.specs.Prelude.{nat_le, not, ◌||◌, ◌==◌, length, flat_map, option_and_then, option_map}
use Rattle.std.specs.List.{list_any}
use Rattle.std.specs.FinMap as map
use Rattle.imap_answer.specs.Answer.{done, done_after, done_line, done_with, enabling, refusal}
use Rattle.imap_answer.specs.Fit.{IsFit, is_refusal, is_unavailable}
use Rattle.imap_answer.proofs.Fits.{fits_alone, fits_asking, fits_enabling, fits_if_named, missing_right_fits}
use Rattle.imap_answer.specs.Name.{name_of_text}
use Rattle.imap_names.specs.Name.{Name}
use Rattle.imap_print.specs.declared.list.ListAttributes.{ListAttributes}
use Rattle.imap_print.specs.declared.status.StatusValue.{StatusValue}
use Rattle.imap_print.specs.declared.response.Refusal.TheVariants.{Cannot, Limit, NonExistent}
use Rattle.imap_print.specs.declared.response.Response.{Response}
use Rattle.imap_print.specs.declared.response.Response.TheVariants as response
use Rattle.imap_query.specs.declared.status.StatusItem.{StatusItem}
use Rattle.imap_view.specs.declared.readable.Readable.{Readable}
use Rattle.imap_view.specs.Readable.{readable_in}
use Rattle.imap_view.specs.View.{View, rights_in}
use Rattle.imap_world.specs.declared.effect.Effect.TheVariants.{Subscribe, Unsubscribe}
use Rattle.imap_listing.specs.declared.line.Line.{Line}
use Rattle.imap_list.specs.ListCommand.{ListArguments, asks_for_root, given_line, is_unbuilt, lines_of, list_answer, may_have_status, namespace_answer, responses_of, status_after, status_items, status_of_text}
use Rattle.imap_list.specs.Status.{answer_of_line, enabled_by, status_answer, status_in, status_line, status_of_name}
use Rattle.imap_list.specs.Subscriptions.{is_listed, max_subscriptions, subscribe_answer, subscribe_of_name, unsubscribe_answer, unsubscribe_of_name}

module _ (view : View) (tag : List ℕ) where
  -- ---- subscriptions

  subscribe_by : (name : Name) (absent there full : Bool) → IsFit view
      (cond absent (refusal tag NonExistent) (cond there (done tag) (cond full (refusal tag Limit) (done_with tag (Subscribe view.user name)))))
  subscribe_by name true there full = fits_alone view _ _ refl
  subscribe_by name false true full = fits_alone view _ _ refl
  subscribe_by name false false true = fits_alone view _ _ refl
  subscribe_by name false false false = fits_asking view tag (Subscribe view.user name) refl

  pub subscribe_fits : (mailbox : List ℕ) → IsFit view (subscribe_answer view tag mailbox)
  subscribe_fits mailbox =
      fits_if_named view tag mailbox (subscribe_of_name view tag) (λ name.
      subscribe_by name (not (is_listed (map.get view.seen name))) (map.contains_key view.subscribed name)
      (nat_le max_subscriptions (map.len view.subscribed)))

  unsubscribe_by : (name : Name) (there : Bool) → IsFit view (cond there (done_with tag (Unsubscribe view.user name)) (done tag))
  unsubscribe_by name true = fits_asking view tag (Unsubscribe view.user name) refl
  unsubscribe_by name false = fits_alone view _ _ refl

  pub unsubscribe_fits : (mailbox : List ℕ) → IsFit view (unsubscribe_answer view tag mailbox)
  unsubscribe_fits mailbox =
      fits_if_named view tag mailbox (unsubscribe_of_name view tag)
      (λ name. unsubscribe_by name (map.contains_key view.subscribed name))

  -- ---- lists

  module _ (arguments : ListArguments) where
    -- lines of LIST and of STATUS don't pass a test that none of these lines passes
    module _ (test : Response → Bool) (list : (attributes : ListAttributes) (mailbox : List ℕ) → test (response.List attributes mailbox) ≡ false)
        (status : (mailbox : List ℕ) (items : List StatusValue) → test (response.Status mailbox items) ≡ false) (last : test (done_line tag) ≡ false) where
      status_passes : (name : Name) (items : List StatusItem) (rest : List Response) (mailbox : Option Readable)
          → list_any test (given_line (option_map (status_line view.user name items) mailbox) ++ rest) ≡ list_any test rest
      status_passes name items rest None = refl
      status_passes name items rest (Some mailbox) = ap (λ b. b || list_any test rest) (status _ _)

      text_passes : (items : List StatusItem) (rest : List Response) (name : Option Name)
          → list_any test (given_line (option_and_then (status_in view items) name) ++ rest) ≡ list_any test rest
      text_passes items rest None = refl
      text_passes items rest (Some name) = status_passes name items rest (readable_in view name)

      after_passes : (line : Line) (rest : List Response) → list_any test (status_after view arguments line ++ rest) ≡ list_any test rest
      after_passes line rest = by (length (status_items arguments) == 0) (may_have_status arguments line)
        where
          by : (none may : Bool) → list_any test (cond none [] (cond may (status_of_text view (status_items arguments) line.name) []) ++ rest) ≡ list_any test rest
          by true may = refl
          by false true = text_passes (status_items arguments) rest (name_of_text view line.name)
          by false false = refl

      lines_pass : (lines : List Line) → list_any test (flat_map (responses_of view arguments) lines ++ done_line tag ∷ []) ≡ false
      lines_pass [] = ap (λ b. b || false) last
      lines_pass (line ∷ lines) =
          ap (list_any test) (append_assoc (responses_of view arguments line) (flat_map (responses_of view arguments) lines) (done_line tag ∷ []))
          ∙ ap (λ b. b || list_any test (status_after view arguments line ++ (flat_map (responses_of view arguments) lines ++ done_line tag ∷ []))) (list _ _)
          ∙ after_passes line (flat_map (responses_of view arguments) lines ++ done_line tag ∷ [])
          ∙ lines_pass lines

    list_by : (unbuilt root : Bool) (lines : List Line) → IsFit view
        (cond unbuilt (refusal tag Cannot) (cond root (done_after (response.ListRoot ∷ []) tag) (enabling (enabled_by (status_items arguments)) (done_after (flat_map (responses_of view arguments) lines) tag))))
    list_by true root lines = fits_alone view _ _ refl
    list_by false true lines = fits_alone view _ _ refl
    list_by false false lines = fits_enabling view (enabled_by (status_items arguments)) _ (lines_pass is_refusal (λ attributes mailbox. refl) (λ mailbox items. refl) refl lines)
        (fits_alone view _ _ (lines_pass is_unavailable (λ attributes mailbox. refl) (λ mailbox items. refl) refl lines))

    pub list_fits : IsFit view (list_answer view tag arguments)
    list_fits = list_by (is_unbuilt arguments) (asks_for_root arguments) (lines_of view arguments)

  -- ---- STATUS

  status_by : (name : Name) (items : List StatusItem) (mailbox : Option Readable) → IsFit view (answer_of_line view tag items name (option_map (status_line view.user name items) mailbox))
  status_by name items None = missing_right_fits view tag (rights_in view name)
  status_by name items (Some mailbox) = fits_enabling view (enabled_by items) _ refl (fits_alone view _ _ refl)

  pub status_fits : (mailbox : List ℕ) (items : List StatusItem) → IsFit view (status_answer view tag mailbox items)
  status_fits mailbox items =
      fits_if_named view tag mailbox (status_of_name view tag items) (λ name. status_by name items (readable_in view name))

  pub namespace_fits : IsFit view (namespace_answer tag)
  namespace_fits = fits_alone view _ _ refl
