-- A batch is a list of shared events and own changes.
use Rattle.std.proofs.Common.{◌≡◌, ℕ, Bool, true, false, cond, List, [], ◌∷◌, ◌++◌, refl, sym, ap, subst, ◌∙◌}
use Rattle.imap_mailbox.specs.Rows.{Event, Added, FlagsSet, Expunged, Shared, IsGiven, IsPresent}
use Rattle.imap_mailbox.specs.History.{History, uids, next_uid}
use Rattle.imap_mailbox.specs.Summary.{Summary, step, with_seen, with_expunge, is_there}
use Rattle.imap_mailbox.specs.Calls.{arrival, if_there}
use Rattle.imap_mailbox.specs.Called.{IsHistoryOf}
use Rattle.imap_mailbox.specs.Expunging.{with_expunges}
use Rattle.imap_mailbox.proofs.CallEvents.{by_change, by_event, next_is, present_is}
use Rattle.imap_batch.specs.declared.batch.NewMessage.{NewMessage}
use Rattle.imap_batch.specs.declared.batch.FlagUpdate.{FlagUpdate}
use Rattle.imap_batch.specs.Written.{with_own, with_message, with_new, with_added, with_new_flags, with_mark, with_marks}
use Rattle.imap_batch.specs.Events.{Happening, Shares, Marks, history_with, summary_with, IsReached, BatchesAreEvents}
use Rattle.imap_batch.proofs.Steps.{flags_by, new_by, own_by, seen_by}

summary_append : (a b : List Happening) (s : Summary) → summary_with (a ++ b) s ≡ summary_with b (summary_with a s)
summary_append [] b s = refl
summary_append (Shares e ∷ a) b s = summary_append a b (step e s)
summary_append (Marks user uid seen ∷ a) b s = summary_append a b (with_seen user uid seen s)

history_append : (a b : List Happening) (h : History) → history_with (a ++ b) h ≡ history_with b (history_with a h)
history_append [] b h = refl
history_append (Shares e ∷ a) b h = history_append a b _
history_append (Marks user uid seen ∷ a) b h = history_append a b _

nothing : (s : Summary) → IsReached s s
nothing s = ([], record { summary = refl; history = λ h is. is })

then : (s t u : Summary) → IsReached s t → IsReached t u → IsReached s u
then s t u a b = (
  a.0 ++ b.0,
  record {
    summary = summary_append a.0 b.0 s ∙ ap (summary_with b.0) a.1.summary ∙ b.1.summary;
    history = λ h is. subst (IsHistoryOf u) (sym (history_append a.0 b.0 h)) (b.1.history (history_with a.0 h) (a.1.history h is));
  },
)

-- ---- one happening

one_event : (e : Event) (s : Summary) → ((h : History) → IsHistoryOf s h → IsGiven (next_uid h) (Shared e) × IsPresent (uids h) e) → IsReached s (step e s)
one_event e s given = (Shares e ∷ [], record { summary = refl; history = λ h is. by_event s h is e (given h is).0 (given h is).1 })

one_change : (user : List ℕ) (uid : ℕ) (seen : Bool) (s : Summary) → is_there uid s ≡ true → IsReached s (with_seen user uid seen s)
one_change user uid seen s there = (Marks user uid seen ∷ [], record { summary = refl; history = λ h is. by_change s h is user uid seen there })

own : (user : List ℕ) (uid : ℕ) (seen : Bool) (s : Summary) → IsReached s (with_own user uid seen s)
own user uid seen s = own_by (IsReached s) user uid seen s (λ few there. one_change user uid seen s there) (nothing s)

message : (m : NewMessage) (s : Summary) → IsReached s (with_message m s)
message m s = one_event (Added (arrival s.next m.date m.octets m.flags)) s (λ h is. (next_is s h is, tt))

gone : (uid : ℕ) (s : Summary) → IsReached s (if_there uid (with_expunge uid s) s)
gone uid s = by (is_there uid s) refl
  where
    by : (b : Bool) → is_there uid s ≡ b → IsReached s (cond b (with_expunge uid s) s)
    by true there = one_event (Expunged uid) s (λ h is. (tt, present_is s h is uid there))
    by false none = nothing s

-- ---- the parts of a batch

new : (user : List ℕ) (m : NewMessage) (s : Summary) → IsReached s (with_new user m s)
new user m s =
    new_by (IsReached s) user m s
    (then s (with_message m s) _ (message m s) (own user s.next true (with_message m s))) (message m s)

added : (user : List ℕ) (ms : List NewMessage) (s : Summary) → IsReached s (with_added user ms s)
added user [] s = nothing s
added user (m ∷ ms) s = then s (with_new user m s) _ (new user m s) (added user ms (with_new user m s))

mark : (user : List ℕ) (k : FlagUpdate) (s : Summary) → IsReached s (with_mark user k s)
mark user k s =
    let flagged : IsReached s (with_new_flags k.uid k.flags s) =
    flags_by (IsReached s) k.uid k.flags s (λ flags is. one_event (FlagsSet k.uid flags) s (λ h of. (tt, tt))) (nothing s) in
    seen_by (IsReached s) user k.uid k.seen (with_new_flags k.uid k.flags s)
    (λ seen. then s (with_new_flags k.uid k.flags s) _ flagged (own user k.uid seen (with_new_flags k.uid k.flags s))) flagged

marks : (user : List ℕ) (ks : List FlagUpdate) (s : Summary) → IsReached s (with_marks user ks s)
marks user [] s = nothing s
marks user (k ∷ ks) s = then s (with_mark user k s) _ (mark user k s) (marks user ks (with_mark user k s))

expunges : (us : List ℕ) (s : Summary) → IsReached s (with_expunges us s)
expunges [] s = nothing s
expunges (uid ∷ us) s = then s (if_there uid (with_expunge uid s) s) _ (gone uid s) (expunges us (if_there uid (with_expunge uid s) s))

pub batches_are_events : BatchesAreEvents
batches_are_events b s =
    let first = with_added b.user b.added s in
    let second = with_marks b.user b.marks first in
    then s second _ (then s first second (added b.user b.added s) (marks b.user b.marks first)) (expunges b.expunged second)
