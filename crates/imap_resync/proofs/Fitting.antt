-- The answer of SELECT with parameters asks nothing of the mailboxes.
use Rattle.std.proofs.Common.{◌≡◌, ℕ, ◌+◌, ◌==◌, Bool, true, false, cond, ◌||◌, List, [], ◌∷◌, ◌++◌, refl, sym, ap, ◌∙◌, true≢false}
use Rattle.std.specs.Prelude.{Option, Some, None}
use Rattle.std.specs.FinMap as fin
use Rattle.std.specs.List.{list_any}
use Rattle.std.proofs.lemmas.List.Folds.{list_any-append}
use Rattle.imap_answer.specs.Alike.{AnswersAlike}
use Rattle.imap_answer.specs.Answer.{Answer, enabling, followed_by, lines_of}
use Rattle.imap_answer.specs.Fit.{IsFit, is_refusal, is_unavailable}
use Rattle.imap_answer.specs.Name.{name_of_text}
use Rattle.imap_answer.proofs.Alike.{answers_alike}
use Rattle.imap_answer.proofs.Fits.{fits_alone, fits_enabling, fits_followed, fits_preceded, missing_right_fits}
use Rattle.imap_commands.specs.declared.commands.select.QresyncArg.{QresyncArg}
use Rattle.imap_commands.specs.declared.commands.select.SelectParameters.{SelectParameters}
use Rattle.imap_mailbox.specs.Rows.{Row}
use Rattle.imap_mailbox.specs.Shown.{Content}
use Rattle.imap_names.specs.Name.{Name}
use Rattle.imap_print.specs.declared.enabled.EnabledCapabilities.{EnabledCapabilities}
use Rattle.imap_print.specs.declared.response.Response.{Response}
use Rattle.imap_targets.specs.Select.{closed_line, select_answer, select_if_named, select_if_readable}
use Rattle.imap_targets.specs.State.{Selection, SessionState}
use Rattle.imap_view.specs.declared.readable.Readable.{Readable}
use Rattle.imap_view.specs.Readable.{readable_in, readable_of}
use Rattle.imap_view.specs.Seen.{Seen}
use Rattle.imap_view.specs.View.{View, rights_in}
use Rattle.imap_resync.specs.Select.{changed_line, changed_lines, enabled_by, is_changed, lines_if_asked, lines_if_named, lines_if_readable, lines_if_seen, resync_lines, select_with_parameters, with_lines}
use Rattle.imap_resync.specs.UidSet.{UidSet, known_set}
use Rattle.imap_resync.specs.Vanished.{earlier_line, vanished}

-- ---- lines pass no test that none of these kinds passes

module _ (test : Response → Bool) (earlier : (uids : List ℕ) → list_any test (earlier_line uids) ≡ false) (line : (n : ℕ) (row : Row) → test (changed_line n row) ≡ false) where
  changed_pass : (since : ℕ) (uids : Option UidSet) (n : ℕ) (rows : List Row) → list_any test (changed_lines since uids n rows) ≡ false
  changed_pass since uids n [] = refl
  changed_pass since uids n (row ∷ rows) = by (is_changed since uids row) (changed_pass since uids (n + 1) rows)
    where
      by : (b : Bool) → list_any test (changed_lines since uids (n + 1) rows) ≡ false → list_any test (cond b (changed_line n row ∷ []) [] ++ changed_lines since uids (n + 1) rows) ≡ false
      by true later = ap (λ b. b || list_any test (changed_lines since uids (n + 1) rows)) (line n row) ∙ later
      by false later = later

  resync_pass : (known : QresyncArg) (content : Content) → list_any test (resync_lines known content) ≡ false
  resync_pass known content =
      let uids = known_set known.known_uids in
      let changed = changed_lines known.mod_seq uids 1 content.rows in
      list_any-append test (earlier_line (vanished content.next known.mod_seq uids content.gone)) changed
      ∙ ap (λ b. b || list_any test changed) (earlier (vanished content.next known.mod_seq uids content.gone))
      ∙ changed_pass known.mod_seq uids 1 content.rows

  readable_pass : (known : QresyncArg) (mailbox : Option Readable) (content : Option Content) → list_any test (lines_if_readable known mailbox content) ≡ false
  readable_pass known None None = refl
  readable_pass known None (Some content) = refl
  readable_pass known (Some mailbox) None = refl
  readable_pass known (Some mailbox) (Some content) = by (known.validity == mailbox.validity)
    where
      by : (b : Bool) → list_any test (cond b (resync_lines known content) []) ≡ false
      by true = resync_pass known content
      by false = refl

  seen_pass : (known : QresyncArg) (seen : Option Seen) → list_any test (lines_if_seen known seen) ≡ false
  seen_pass known None = refl
  seen_pass known (Some seen) = readable_pass known (readable_of seen) seen.messages.content

  named_pass : (view : View) (known : QresyncArg) (name : Option Name) → list_any test (lines_if_named view known name) ≡ false
  named_pass view known None = refl
  named_pass view known (Some name) = seen_pass known (fin.get view.seen name)

  lines_pass : (view : View) (mailbox : List ℕ) (asked : Option QresyncArg) → list_any test (lines_if_asked view mailbox asked) ≡ false
  lines_pass view mailbox None = refl
  lines_pass view mailbox (Some known) = named_pass view known (name_of_text view mailbox)

no_refusal : (uids : List ℕ) → list_any is_refusal (earlier_line uids) ≡ false
no_refusal [] = refl
no_refusal (uid ∷ uids) = refl

no_outage : (uids : List ℕ) → list_any is_unavailable (earlier_line uids) ≡ false
no_outage [] = refl
no_outage (uid ∷ uids) = refl

-- ---- the answer without parameters

module _ (view : View) (own : SessionState) (tag : List ℕ) (read_only : Bool) where
  closed_refuses : (old : Option Selection) → list_any is_refusal (closed_line old) ≡ false
  closed_refuses None = refl
  closed_refuses (Some s) = refl

  closed_available : (old : Option Selection) → list_any is_unavailable (closed_line old) ≡ false
  closed_available None = refl
  closed_available (Some s) = refl

  readable_fits : (name : Name) (mailbox : Option Readable) → IsFit view (select_if_readable view own tag read_only name mailbox).answer
  readable_fits name None = fits_preceded view (closed_line own.selected) _ (closed_refuses own.selected) (closed_available own.selected) (missing_right_fits view tag (rights_in view name))
  readable_fits name (Some mailbox) =
      fits_preceded view (closed_line own.selected) _ (closed_refuses own.selected) (closed_available own.selected)
      (record { asks = λ _. tt; refused = λ e. absurd (true≢false (sym e)); available = refl })

  named_fits : (name : Option Name) → IsFit view (select_if_named view own tag read_only name).answer
  named_fits None = fits_preceded view (closed_line own.selected) _ (closed_refuses own.selected) (closed_available own.selected) (fits_alone view [] _ refl)
  named_fits (Some name) = readable_fits name (readable_in view name)

  -- its untagged lines refuse nothing
  readable_done : (name : Name) (mailbox : Option Readable) → list_any is_refusal (select_if_readable view own tag read_only name mailbox).answer.untagged ≡ false
  readable_done name None = list_any-append is_refusal (closed_line own.selected) [] ∙ ap (λ b. b || false) (closed_refuses own.selected)
  readable_done name (Some mailbox) = list_any-append is_refusal (closed_line own.selected) _ ∙ ap (λ b. b || false) (closed_refuses own.selected)

  named_done : (name : Option Name) → list_any is_refusal (select_if_named view own tag read_only name).answer.untagged ≡ false
  named_done None = list_any-append is_refusal (closed_line own.selected) [] ∙ ap (λ b. b || false) (closed_refuses own.selected)
  named_done (Some name) = readable_done name (readable_in view name)

-- ---- with parameters

unless_refused : (view : View) (enables : EnabledCapabilities) (answer : Answer) → list_any is_refusal answer.untagged ≡ false → IsFit view answer
    → (b : Bool) → is_refusal answer.last ≡ b → IsFit view (cond b answer (enabling enables answer))
unless_refused view enables answer none fit true is = fit
unless_refused view enables answer none fit false is =
    fits_enabling view enables answer
    (list_any-append is_refusal answer.untagged (answer.last ∷ []) ∙ ap (λ b. b || (is_refusal answer.last || false)) none ∙ ap (λ b. b || false) is) fit

pub select_fits : (view : View) (own : SessionState) (tag : List ℕ) (read_only : Bool) (mailbox : List ℕ) (parameters : SelectParameters)
    → IsFit view (select_with_parameters view own tag read_only mailbox parameters).answer
select_fits view own tag read_only mailbox parameters =
    let name = name_of_text view mailbox in
    let answer = (select_answer view own tag read_only mailbox).answer in
    let lines = lines_if_asked view mailbox parameters.qresync in
    let refuses = lines_pass is_refusal no_refusal (λ n row. refl) view mailbox parameters.qresync in
    let outage = lines_pass is_unavailable no_outage (λ n row. refl) view mailbox parameters.qresync in
    unless_refused view (enabled_by parameters) (followed_by lines answer)
    (list_any-append is_refusal answer.untagged lines ∙ ap (λ b. b || list_any is_refusal lines) (named_done view own tag read_only name) ∙ refuses)
    (fits_followed view lines answer refuses outage (named_fits view own tag read_only name))
    (is_refusal answer.last) refl

-- ---- what is refused selects nothing

module _ (view : View) (own : SessionState) (tag : List ℕ) (read_only : Bool) (parameters : SelectParameters) (lines : List Response) (none : list_any is_refusal lines ≡ false) where
  readable_selects : (name : Name) (mailbox : Option Readable) → list_any is_refusal (lines_of (with_lines parameters lines (select_if_readable view own tag read_only name mailbox)).answer) ≡ true
      → (select_if_readable view own tag read_only name mailbox).selection ≡ None
  readable_selects name None refused = refl
  readable_selects name (Some mailbox) refused =
      let answer = (select_if_readable view own tag read_only name (Some mailbox)).answer in
      absurd (true≢false (sym refused
      ∙ list_any-append is_refusal (answer.untagged ++ lines) (answer.last ∷ [])
      ∙ ap (λ b. b || (is_refusal answer.last || false)) (list_any-append is_refusal answer.untagged lines ∙ ap (λ b. b || list_any is_refusal lines) (readable_done view own tag read_only name (Some mailbox)) ∙ none)))

  named_selects : (name : Option Name) → list_any is_refusal (lines_of (with_lines parameters lines (select_if_named view own tag read_only name)).answer) ≡ true
      → (select_if_named view own tag read_only name).selection ≡ None
  named_selects None refused = refl
  named_selects (Some name) refused = readable_selects name (readable_in view name) refused

pub refused_selects_none : (view : View) (own : SessionState) (tag : List ℕ) (read_only : Bool) (mailbox : List ℕ) (parameters : SelectParameters)
    → list_any is_refusal (lines_of (select_with_parameters view own tag read_only mailbox parameters).answer) ≡ true → (select_with_parameters view own tag read_only mailbox parameters).selection ≡ None
refused_selects_none view own tag read_only mailbox parameters =
    named_selects view own tag read_only parameters (lines_if_asked view mailbox parameters.qresync)
    (lines_pass is_refusal no_refusal (λ n row. refl) view mailbox parameters.qresync) (name_of_text view mailbox)

pub select_alike : (own : SessionState) (tag : List ℕ) (read_only : Bool) (mailbox : List ℕ) (parameters : SelectParameters)
    → AnswersAlike (λ view. (select_with_parameters view own tag read_only mailbox parameters).answer)
select_alike own tag read_only mailbox parameters =
    answers_alike (λ view. (select_with_parameters view own tag read_only mailbox parameters).answer)
    (λ view. select_fits view own tag read_only mailbox parameters)
