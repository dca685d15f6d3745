-- The calls that may be refused, and the events that each makes.
use Rattle.std.specs.Prelude.{◌≡◌, ◌↔◌, ℕ, Bool, true, List, Option, Some, None, Result, Ok, if◌then◌else◌}
use Rattle.imap_syntax.specs.Moments.{Moment}
use Rattle.imap_mailbox.specs.declared.flags.SharedFlags.{SharedFlags}
use Rattle.imap_mailbox.specs.declared.message.Message.{Message}
use Rattle.imap_mailbox.specs.declared.error.MailboxError.{MailboxError}
use Rattle.imap_mailbox.specs.Rows.{Added, FlagsSet, Expunged}
use Rattle.imap_mailbox.specs.History.{History, IsLawful, with_event, with_own_change}
use Rattle.imap_mailbox.specs.Own.{own_at}
use Rattle.imap_mailbox.specs.Summary.{Summary, summary_of, latest, latest_seen}
use Rattle.imap_mailbox.specs.Calls.{is_same, same_flags, message_at, arrival}
use Rattle.imap_mailbox.specs.Calls.{add_result, set_flags_result, expunge_result, mark_seen_result}

-- a call, with its arguments
pub data Call : Type 0 where
  Add : (max_messages : ℕ) → Moment → (octets : List ℕ) → SharedFlags → Call
  SetFlags : (uid : ℕ) → SharedFlags → Call
  Expunge : (uid : ℕ) → Call
  MarkSeen : (user : List ℕ) (uid : ℕ) (seen : Bool) → Call

abbrev pub call_result : Call → Summary → Result Summary MailboxError
call_result (Add max_messages date octets flags) s = add_result max_messages date octets flags s
call_result (SetFlags uid flags) s = set_flags_result uid flags s
call_result (Expunge uid) s = expunge_result uid s
call_result (MarkSeen user uid seen) s = mark_seen_result user uid seen s

-- the message has the flags already
abbrev pub has_flags : SharedFlags → Option Message → Bool
has_flags flags None = true
has_flags flags (Some m) = same_flags m.flags flags

-- the events after a call that succeeded on the summary: flags and \Seen that stay make none
abbrev pub history_after : Call → Summary → History → History
history_after (Add max_messages date octets flags) s history =
    with_event (Added (arrival s.next date octets flags)) history
history_after (SetFlags uid flags) s history =
    if has_flags flags (message_at uid s.messages) then history else with_event (FlagsSet uid flags) history
history_after (Expunge uid) s history = with_event (Expunged uid) history
history_after (MarkSeen user uid seen) s history =
    if is_same (latest_seen (latest uid (own_at s.own user))) seen
    then history
    else with_own_change user uid seen history

-- the mailbox with this summary may have had these events
pub record IsHistoryOf (s : Summary) (history : History) : Type 0 where
  pub summary : summary_of history ≡ s
  pub lawful : (user : List ℕ) → IsLawful history user

-- whatever is called and succeeds, the new summary is that of the events that are there then
abbrev pub CallsAreEvents : Type 0
CallsAreEvents =
    (call : Call) (s new : Summary) (history : History) → IsHistoryOf s history → call_result call s ≡ Ok new
    → IsHistoryOf new (history_after call s history)

-- the test of flags is their equality, so that flags which stay the same are those that are equal
abbrev pub FlagsAreTested : Type 0
FlagsAreTested = (a b : SharedFlags) → (same_flags a b ≡ true) ↔ (a ≡ b)
