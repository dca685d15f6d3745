-- What holds of every two journals.
use Rattle.std.specs.Prelude.{◌≡◌, ℕ, Bool, false, List, map}
use Rattle.std.specs.List.{list_any}
use Rattle.imap_answer.specs.Fit.{is_unavailable}
use Rattle.imap_saving.specs.Step.{Step}
use Rattle.imap_saving.specs.Trace.{Alike, replies_among, trace}
use Rattle.imap_print.specs.declared.response.Response.{Response}
use Rattle.imap_hall.specs.Journal.{IsRun, JournalEntry, Point}

abbrev pub steps_of : List JournalEntry → List Step
steps_of = map (λ entry. entry.step)

-- the answer to each step
abbrev pub answers_in : List JournalEntry → List (List Response)
answers_in = map (λ entry. entry.replies)

-- what the user's sessions were sent, each answer with the session's number
abbrev pub heard : List ℕ → List JournalEntry → List (ℕ × List Response)
heard user entries = replies_among user (steps_of entries) (answers_in entries)

-- the store refused the change
abbrev pub is_refused : JournalEntry → Bool
is_refused entry = list_any is_unavailable entry.replies

-- that of no entry
abbrev pub AreSaved : List JournalEntry → Type 0
AreSaved entries = list_any is_refused entries ≡ false

-- To each user, two journals in which the store refused nothing tell the same, if they begin alike and have
-- one trace.
abbrev pub JournalsAreIsolated : Type 0
JournalsAreIsolated =
    (user : List ℕ) (base now other_base other_now : Point) (entries others : List JournalEntry)
    → IsRun base entries now → IsRun other_base others other_now → AreSaved entries → AreSaved others
    → Alike user base.state other_base.state
    → trace user base.state (steps_of entries) ≡ trace user other_base.state (steps_of others)
    → heard user entries ≡ heard user others
