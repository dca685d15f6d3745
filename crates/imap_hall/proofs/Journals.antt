-- A journal in which the store refused nothing is a run of the machine.
use Rattle.std.proofs.Common.{◌≡◌, ◌⊎◌, inl, inr, ℕ, Bool, true, false, ◌||◌, List, [], ◌∷◌, refl, sym, ap, ◌∙◌}
use Rattle.std.specs.List.{list_any}
use Rattle.imap_answer.specs.Fit.{is_unavailable}
use Rattle.imap_saving.specs.Machine.{State, answers}
use Rattle.imap_saving.specs.Trace.{IsolationOfReplies, replies_among, replies_to}
use Rattle.imap_hall.specs.Journal.{IsMade, IsRefused, IsRun, JournalEntry, Point}
use Rattle.imap_hall.specs.Laws.{AreSaved, JournalsAreIsolated, answers_in, heard, is_refused, steps_of}

neither : (a b : Bool) → (a || b) ≡ false → (a ≡ false) × (b ≡ false)
neither true b e = absurd (cc e)
neither false b e = (refl, e)

-- an entry that the store didn't refuse was made
made : (p q : Point) (entry : JournalEntry) → IsMade p entry q ⊎ IsRefused p entry q → is_refused entry ≡ false → IsMade p entry q
made p q entry (inl is) saved = is
made p q entry (inr is) saved = absurd (cc (sym (ap (list_any is_unavailable) is.replies) ∙ saved))

answers_are : (base now : Point) (entries : List JournalEntry) → IsRun base entries now → AreSaved entries → answers_in entries ≡ answers base.state (steps_of entries)
answers_are base now [] run saved = refl
answers_are base now (entry ∷ entries) run saved =
    let parts = neither (is_refused entry) (list_any is_refused entries) saved in
    let is = made base run.0 entry run.1.made parts.0 in
    let later = answers_are run.0 now entries run.2 parts.1 ∙ ap (λ (state : State). answers state (steps_of entries)) is.state in
    λ i. is.replies i ∷ later i

heard_is : (user : List ℕ) (base now : Point) (entries : List JournalEntry) → IsRun base entries now → AreSaved entries → heard user entries ≡ replies_to user base.state (steps_of entries)
heard_is user base now entries run saved = ap (replies_among user (steps_of entries)) (answers_are base now entries run saved)

pub journals_isolated : IsolationOfReplies → JournalsAreIsolated
journals_isolated isolated user base now other_base other_now entries others run other_run saved other_saved alike same =
    heard_is user base now entries run saved ∙ isolated user base.state other_base.state (steps_of entries) (steps_of others) alike same
    ∙ sym (heard_is user other_base other_now others other_run other_saved)
