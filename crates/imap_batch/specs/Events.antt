-- A batch as what happens to a mailbox: shared events, and own changes of \Seen.
use Rattle.std.specs.Prelude.{◌≡◌, ℕ, Bool, List, [], ◌∷◌}
use Rattle.imap_mailbox.specs.Rows.{Event}
use Rattle.imap_mailbox.specs.History.{History, with_event, with_own_change}
use Rattle.imap_mailbox.specs.Summary.{Summary, step, with_seen}
use Rattle.imap_mailbox.specs.Called.{IsHistoryOf}
use Rattle.imap_batch.specs.declared.batch.Batch.{Batch}
use Rattle.imap_batch.specs.Written.{with_batch}

-- a shared event, or an own change of a user
pub data Happening : Type 0 where
  Shares : Event → Happening
  Marks : (user : List ℕ) (uid : ℕ) (seen : Bool) → Happening

abbrev pub history_step : Happening → History → History
history_step (Shares e) history = with_event e history
history_step (Marks user uid seen) history = with_own_change user uid seen history

abbrev pub history_with : List Happening → History → History
history_with [] history = history
history_with (e ∷ es) history = history_with es (history_step e history)

abbrev pub summary_step : Happening → Summary → Summary
summary_step (Shares e) s = step e s
summary_step (Marks user uid seen) s = with_seen user uid seen s

abbrev pub summary_with : List Happening → Summary → Summary
summary_with [] s = s
summary_with (e ∷ es) s = summary_with es (summary_step e s)

-- t is s after these. What may have happened to a mailbox with the summary s is lawful with them, too
pub record IsMadeOf (es : List Happening) (s t : Summary) : Type 0 where
  pub summary : summary_with es s ≡ t
  pub history : (history : History) → IsHistoryOf s history → IsHistoryOf t (history_with es history)

-- some list of happenings leads from s to t
abbrev pub IsReached : (s t : Summary) → Type 0
IsReached s t = (es : List Happening) × IsMadeOf es s t

abbrev pub BatchesAreEvents : Type 0
BatchesAreEvents = (b : Batch) (s : Summary) → IsReached s (with_batch b s)
