-- Each call that succeeds makes events that a mailbox takes.
use Rattle.std.proofs.Common.{◌≡◌, ℕ, eqb, Bool, true, false, cond, ◌||◌, List, [], ◌∷◌, length, Option, Some, None, Result, Ok, Err, refl, sym, ap, subst, ◌∙◌}
use Rattle.imap_modseq.specs.Numbers.{max_events}
use Rattle.imap_syntax.specs.Moments.{Moment}
use Rattle.imap_mailbox.specs.declared.flags.SharedFlags.{SharedFlags}
use Rattle.imap_mailbox.specs.declared.message.Message.{Message}
use Rattle.imap_mailbox.specs.declared.error.MailboxError.{MailboxError}
use Rattle.imap_mailbox.specs.declared.error.MailboxError.TheVariants.{Full, Limit}
use Rattle.imap_mailbox.specs.Rows.{Event, Added, FlagsSet, Expunged, Shared, IsGiven, IsPresent, WasGiven, is_among}
use Rattle.imap_mailbox.specs.History.{History, uids, next_uid, with_event, with_own_change}
use Rattle.imap_mailbox.specs.Own.{own_at}
use Rattle.imap_mailbox.specs.Summary.{Summary, step, with_seen, room_of, latest, latest_seen, uids_in, IsSound}
use Rattle.imap_mailbox.specs.Flags.{has_too_many}
use Rattle.imap_mailbox.specs.Calls.{is_same, same_flags, message_at, arrival, add_result, set_flags_case, expunge_case, mark_seen_case}
use Rattle.imap_mailbox.specs.Called.{Add, SetFlags, Expunge, MarkSeen, has_flags, IsHistoryOf, CallsAreEvents}
use Rattle.imap_mailbox.proofs.Accounts.{among_rising}
use Rattle.imap_mailbox.proofs.Admitted.{summaries_are_admitted}
use Rattle.imap_mailbox.proofs.Bridge.{events_are_steps, changes_are_steps, counts_are_those_of_events, uids_steps}
use Rattle.imap_mailbox.proofs.Lawful.{lawful_stays}

among_there : (uid : ℕ) (messages : List Message) (m : Message) → message_at uid messages ≡ Some m → is_among uid (uids_in messages) ≡ true
among_there uid [] m e = absurd (cc e)
among_there uid (x ∷ messages) m e = by (eqb x.uid uid) e (among_there uid messages m)
  where
    by : (b : Bool) → cond b (Some x) (message_at uid messages) ≡ Some m → (message_at uid messages ≡ Some m → is_among uid (uids_in messages) ≡ true) → b || is_among uid (uids_in messages) ≡ true
    by true e later = refl
    by false e later = later e

module _ (s : Summary) (history : History) (h : IsHistoryOf s history) where
  pub by_event : (e : Event) → IsGiven (next_uid history) (Shared e) → IsPresent (uids history) e → IsHistoryOf (step e s) (with_event e history)
  by_event e given present = record {
    summary = events_are_steps history e ∙ ap (step e) h.summary;
    lawful = λ user. lawful_stays.1 history user e (h.lawful user) given present;
  }

  pub next_is : s.next ≡ next_uid history
  next_is = ap (λ (s : Summary). s.next) (sym h.summary) ∙ (counts_are_those_of_events history [] 0).0

  pub present_is : (uid : ℕ) → is_among uid (uids_in s.messages) ≡ true → is_among uid (uids history) ≡ true
  present_is uid there = ap (is_among uid) (sym (uids_steps history.shared _) ∙ ap (λ (s : Summary). uids_in s.messages) h.summary) ∙ there

  sound : IsSound s
  sound = subst IsSound h.summary (summaries_are_admitted history h.lawful)

  given_is : (uid : ℕ) → is_among uid (uids_in s.messages) ≡ true → WasGiven (next_uid history) uid
  given_is uid there =
      let bounds = among_rising uid 1 s.next (uids_in s.messages) sound.uids there in
      subst (λ n. WasGiven n uid) next_is bounds

  pub by_change : (user : List ℕ) (uid : ℕ) (seen : Bool) → is_among uid (uids_in s.messages) ≡ true → IsHistoryOf (with_seen user uid seen s) (with_own_change user uid seen history)
  by_change user uid seen there = record {
    summary = changes_are_steps history user uid seen ∙ ap (with_seen user uid seen) h.summary;
    lawful = λ other. lawful_stays.2 history other user uid seen (h.lawful other) (given_is uid there);
  }

abbrev ok : Summary → Result Summary MailboxError
ok s = Ok s

-- a result with tests before it
stays : (t : Summary) (history : History) (new : Summary) → IsHistoryOf t history → ok t ≡ ok new → IsHistoryOf new history
stays t history new h e = subst (λ s. IsHistoryOf s history) (ok_is e) h
  where
    ok_is : ok t ≡ ok new → t ≡ new
    ok_is e = cc e

add_case : (full many : Bool) (t new : Summary) (history : History) → IsHistoryOf t history → cond full (Err Full) (cond many (Err Limit) (ok t)) ≡ ok new → IsHistoryOf new history
add_case true many t new history h e = absurd (cc e)
add_case false true t new history h e = absurd (cc e)
add_case false false t new history h e = stays t history new h e

-- the result where nothing changes, or after two refusals
set_case : (same many full : Bool) (s t new : Summary) (before after : History) → IsHistoryOf s before → IsHistoryOf t after
    → cond same (ok s) (cond many (Err Limit) (cond full (Err Limit) (ok t))) ≡ ok new → IsHistoryOf new (cond same before after)
set_case true many full s t new before after h k e = stays s before new h e
set_case false true full s t new before after h k e = absurd (cc e)
set_case false false true s t new before after h k e = absurd (cc e)
set_case false false false s t new before after h k e = stays t after new k e

gone_case : (full : Bool) (t new : Summary) (history : History) → IsHistoryOf t history → cond full (Err Limit) (ok t) ≡ ok new → IsHistoryOf new history
gone_case true t new history h e = absurd (cc e)
gone_case false t new history h e = stays t history new h e

mark_case : (same full : Bool) (s t new : Summary) (before after : History) → IsHistoryOf s before → IsHistoryOf t after
    → cond same (ok s) (cond full (Err Limit) (ok t)) ≡ ok new → IsHistoryOf new (cond same before after)
mark_case true full s t new before after h k e = stays s before new h e
mark_case false true s t new before after h k e = absurd (cc e)
mark_case false false s t new before after h k e = stays t after new k e

module _ (s new : Summary) (history : History) (h : IsHistoryOf s history) where
  add_made : (most : ℕ) (date : Moment) (octets : List ℕ) (flags : SharedFlags) → add_result most date octets flags s ≡ Ok new → IsHistoryOf new (with_event (Added (arrival s.next date octets flags)) history)
  add_made most date octets flags e =
      add_case (eqb (room_of most s) 0) (has_too_many flags) (step (Added (arrival s.next date octets flags)) s) new _ (by_event s history h (Added (arrival s.next date octets flags)) (next_is s history h) tt) e

  set_made : (uid : ℕ) (flags : SharedFlags) (found : Option Message) → set_flags_case uid flags s found ≡ Ok new → IsHistoryOf new (cond (has_flags flags found) history (with_event (FlagsSet uid flags) history))
  set_made uid flags None e = absurd (cc e)
  set_made uid flags (Some m) e =
      set_case (same_flags m.flags flags) (has_too_many flags) (eqb s.shared max_events) s (step (FlagsSet uid flags) s) new history (with_event (FlagsSet uid flags) history) h (by_event s history h (FlagsSet uid flags) tt tt) e

  gone_made : (uid : ℕ) (found : Option Message) → message_at uid s.messages ≡ found → expunge_case uid s found ≡ Ok new → IsHistoryOf new (with_event (Expunged uid) history)
  gone_made uid None is e = absurd (cc e)
  gone_made uid (Some m) is e =
      gone_case (eqb s.shared max_events) (step (Expunged uid) s) new (with_event (Expunged uid) history)
      (by_event s history h (Expunged uid) tt (present_is s history h uid (among_there uid s.messages m is))) e

  mark_made : (user : List ℕ) (uid : ℕ) (seen : Bool) (found : Option Message) → message_at uid s.messages ≡ found → mark_seen_case user uid seen s found ≡ Ok new
      → IsHistoryOf new (cond (is_same (latest_seen (latest uid (own_at s.own user))) seen) history (with_own_change user uid seen history))
  mark_made user uid seen None is e = absurd (cc e)
  mark_made user uid seen (Some m) is e =
      mark_case (is_same (latest_seen (latest uid (own_at s.own user))) seen) (eqb (length (own_at s.own user).befores) max_events) s (with_seen user uid seen s) new history (with_own_change user uid seen history)
      h (by_change s history h user uid seen (among_there uid s.messages m is)) e

pub calls_are_events : CallsAreEvents
calls_are_events (Add most date octets flags) s new history h e = add_made s new history h most date octets flags e
calls_are_events (SetFlags uid flags) s new history h e = set_made s new history h uid flags (message_at uid s.messages) e
calls_are_events (Expunge uid) s new history h e = gone_made s new history h uid (message_at uid s.messages) refl e
calls_are_events (MarkSeen user uid seen) s new history h e = mark_made s new history h user uid seen (message_at uid s.messages) refl e
