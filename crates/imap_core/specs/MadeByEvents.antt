-- The mailboxes of a machine are what events made of them: shared ones, and each user's own changes of \Seen.
use Rattle.std.specs.Prelude.{◌≡◌, ℕ, ◌-◌, List, Some, map, take}
use Rattle.std.specs.FinMap as fin
use Rattle.imap_mailbox.specs.Called.{IsHistoryOf}
use Rattle.imap_mailbox.specs.Client.{changed_since, fetch_all, known_of, vanish_all, vanished_since}
use Rattle.imap_mailbox.specs.History.{History, events_of, gone, highest, rows}
use Rattle.imap_mailbox.specs.Rows.{rows_after}
use Rattle.imap_mailbox.specs.Summary.{Summary, gone_of, highest_of, rows_of}
use Rattle.imap_names.specs.Name.{Name}
use Rattle.imap_names.specs.Order.{Names}
use Rattle.imap_rights.specs.Groups.{Members}
use Rattle.imap_world.specs.declared.site.Limits.{Limits}
use Rattle.imap_world.specs.Mailbox.{Mailbox}
use Rattle.imap_world.specs.World.{World}
use Rattle.imap_core.specs.declared.step.Step.{Step}
use Rattle.imap_core.specs.Machine.{State, after_steps}
use Rattle.imap_core.specs.Opening.{state_at_start}

-- Lawful events have this summary. To each user they give its messages with flags and mod-sequences, its gone UIDs
-- and HIGHESTMODSEQ. A client that held what the first of them gave, and follows what is told of later ones, holds
-- what a fetch of all messages gives (RFC 7162, section 3.2.5).
pub record IsMadeByEvents (s : Summary) : Type 0 where
  pub history : History
  pub of_them : IsHistoryOf s history
  pub rows : (user : List ℕ) → rows_of s user ≡ rows history user
  pub gone : (user : List ℕ) → gone_of s user ≡ gone history user
  pub highest : (user : List ℕ) → highest_of s user ≡ highest history user
  pub brought_up : (user : List ℕ) (n : ℕ) →
      let held = map known_of (rows_after (take (n - 1) (events_of history user))) in
      fetch_all (changed_since n (rows_of s user)) (vanish_all (vanished_since n (gone_of s user)) held)
      ≡ map known_of (rows_of s user)

pub record AreMadeByEvents (mailboxes : Names Mailbox) : Type 0 where
  pub at : (name : Name) (mailbox : Mailbox)
      → fin.get mailboxes name ≡ Some mailbox → IsMadeByEvents mailbox.messages

-- If they were when a host starts, as they are where there is none, they are in its first state.
abbrev pub StartsAreMadeByEvents : Type 0
StartsAreMadeByEvents =
    (world : World) (administrator : List ℕ) (users : List (List ℕ)) (groups : Members) (limits : Limits)
    → AreMadeByEvents world.mailboxes
    → AreMadeByEvents (state_at_start world administrator users groups limits).world.mailboxes

-- And they are after every run.
abbrev pub RunsAreMadeByEvents : Type 0
RunsAreMadeByEvents = (state : State) (steps : List Step)
    → AreMadeByEvents state.world.mailboxes → AreMadeByEvents (after_steps state steps).world.mailboxes
