-- What a mailbox keeps is kept by a batch, and it grows.
use Rattle.std.proofs.Common.{◌≡◌, ◌≢◌, ℕ, ◌+◌, ◌<◌, ◌≤◌, Bool, true, false, cond, not, ◌&&◌, List, [], ◌∷◌, length, map, Option, Some, None, Result, Ok, Err, refl, sym, ap, subst, ◌∙◌, arith}
use Rattle.std.specs.Prelude.{nat_le, is_some}
use Rattle.std.specs.List.{list_all}
use Rattle.std.specs.Str.{bytes_eq}
use Rattle.std.proofs.lemmas.Bool.{and_parts, leb-true}
use Rattle.std.proofs.lemmas.Slice.Eq.{bytes_eq-Decides}
use Rattle.imap_modseq.specs.Numbers.{max_events}
use Rattle.imap_mailbox.specs.declared.flags.SharedFlags.{SharedFlags}
use Rattle.imap_mailbox.specs.Brought.{IsBrought}
use Rattle.imap_mailbox.specs.Flags.{has_too_many}
use Rattle.imap_mailbox.specs.Own.{own_at}
use Rattle.imap_mailbox.specs.Held.{IsKept, SetsFewKeywords}
use Rattle.imap_mailbox.specs.Rows.{Event, Added, FlagsSet, Expunged, Shared, IsGiven, IsPresent}
use Rattle.imap_mailbox.specs.Summary.{Summary, step, with_expunge, with_seen, is_there, uids_in, row_in, gone_in}
use Rattle.imap_mailbox.specs.Shown.{content_of}
use Rattle.imap_mailbox.specs.Calls.{arrival}
use Rattle.imap_mailbox.specs.Expunging.{with_expunges}
use Rattle.imap_mailbox.proofs.BroughtUp.{events_are_later, seen_is_later, shown_is_ordered}
use Rattle.imap_mailbox.proofs.Fitting.{next_after, next_rises, shared_after}
use Rattle.imap_mailbox.proofs.Isolated.{shows_after, shows_marked}
use Rattle.imap_mailbox.proofs.Keeping.{kept_step, kept_marked}
use Rattle.imap_mailbox.proofs.Merged.{own_at-other}
use Rattle.imap_batch.specs.declared.batch.NewMessage.{NewMessage}
use Rattle.imap_batch.specs.declared.batch.FlagUpdate.{FlagUpdate}
use Rattle.imap_batch.specs.declared.batch.Batch.{Batch}
use Rattle.imap_batch.specs.declared.write.BatchWrite.{BatchWrite}
use Rattle.imap_batch.specs.declared.error.BatchError.{BatchError}
use Rattle.imap_batch.specs.declared.error.BatchError.TheVariants.{Limit, NoSuchUid}
use Rattle.imap_batch.specs.Batch.{one_if, are_few, flag_count, event_count, has_few_keywords, has_numbers, has_uids, has_messages, write_of}
use Rattle.imap_batch.specs.Written.{with_own, with_message, with_new, with_added, with_new_flags, with_mark, with_marks, with_batch, MayWrite}
use Rattle.imap_batch.specs.Laws.{IsGrown, BatchesKeep, WritesMayBeMade}
use Rattle.imap_batch.proofs.Steps.{given_there, own_by, seen_by, new_by, new_added, all_added, mark_fewer, marks_fewer, flags_counted, few_keywords}

-- ---- one state after the other

pub record Keeps (s t : Summary) : Type 0 where
  pub kept : IsKept t
  pub grown : IsGrown s t

pub itself : (s : Summary) → IsKept s → Keeps s s
itself s kept = record {
  kept = kept;
  grown = record { next = omega arith; shared = omega arith; later = λ user up_to known h. h };
}

-- what holds of a step, and of those after it
pub and_then : (s t u : Summary) → Keeps s t → Keeps t u → Keeps s u
and_then s t u one more = record {
  kept = more.kept;
  grown = record {
    next = omega (arith, one.grown.next, more.grown.next);
    shared = omega (arith, one.grown.shared, more.grown.shared);
    later = λ user up_to known h. more.grown.later user up_to known (one.grown.later user up_to known h);
  };
}

-- ---- one event more

pub event_keeps : (e : Event) (s : Summary) → IsGiven s.next (Shared e) → IsPresent (uids_in s.messages) e → SetsFewKeywords e → s.shared < max_events → IsKept s → Keeps s (step e s)
event_keeps e s given present few lt kept = record {
  kept = kept_step e s given present few lt kept;
  grown = record {
    next = omega (arith, next_after e s, next_rises e s.next given);
    shared = omega (arith, shared_after e s);
    later = λ user up_to known h. subst (IsBrought up_to known) (sym (shows_after user s e kept.sound given))
        (events_are_later (content_of user s) e (shown_is_ordered s user kept) given up_to known h);
  };
}

-- another's own changes show nothing
other_sees : (q user : List ℕ) (uid : ℕ) (seen : Bool) (s : Summary) → q ≢ user → content_of q (with_seen user uid seen s) ≡ content_of q s
other_sees q user uid seen s apart = ap (λ own. record {
  next = s.next;
  shared = s.shared;
  own = length own.befores;
  rows = map (row_in own) s.messages;
  gone = map (gone_in own) s.gone;
}) (own_at-other s.own q user s.shared uid seen apart)

later_seen : (q user : List ℕ) (uid : ℕ) (seen : Bool) (s : Summary) → IsKept s → (up_to : ℕ) (known : _) → IsBrought up_to known (content_of q s) → IsBrought up_to known (content_of q (with_seen user uid seen s))
later_seen q user uid seen s kept up_to known h = by (bytes_eq q user) refl
  where
    own : IsBrought up_to known (content_of user s) → IsBrought up_to known (content_of user (with_seen user uid seen s))
    own h = subst (IsBrought up_to known) (sym (shows_marked user s uid seen kept.sound)) (seen_is_later (content_of user s) uid seen up_to known h)

    by : (b : Bool) → bytes_eq q user ≡ b → IsBrought up_to known (content_of q (with_seen user uid seen s))
    by true same =
        let is : q ≡ user = (bytes_eq-Decides q user).0 same in
        subst (λ x. IsBrought up_to known (content_of x (with_seen user uid seen s))) (sym is) (own (subst (λ x. IsBrought up_to known (content_of x s)) is h))
    by false other =
        subst (IsBrought up_to known) (sym (other_sees q user uid seen s (λ is. absurd (cc (sym ((bytes_eq-Decides q user).1 is) ∙ other))))) h

seen_keeps : (user : List ℕ) (uid : ℕ) (seen : Bool) (s : Summary) → is_there uid s ≡ true → length (own_at s.own user).befores < max_events → IsKept s → Keeps s (with_seen user uid seen s)
seen_keeps user uid seen s there lt kept = record {
  kept = kept_marked user uid seen s (given_there uid s kept.sound there) lt kept;
  grown = record { next = omega arith; shared = omega arith; later = λ q up_to known h. later_seen q user uid seen s kept up_to known h };
}

-- ---- the parts of a batch

pub own_keeps : (user : List ℕ) (uid : ℕ) (seen : Bool) (s : Summary) → IsKept s → Keeps s (with_own user uid seen s)
own_keeps user uid seen s kept = own_by (Keeps s) user uid seen s (λ lt there. seen_keeps user uid seen s there lt kept) (itself s kept)

new_keeps : (user : List ℕ) (m : NewMessage) (s : Summary) → not (has_too_many m.flags) ≡ true → s.shared < max_events → IsKept s → Keeps s (with_new user m s)
new_keeps user m s few lt kept =
    new_by (Keeps s) user m s (and_then s (with_message m s) _ plain (own_keeps user s.next true (with_message m s) plain.kept)) plain
  where
    plain : Keeps s (with_message m s)
    plain = event_keeps (Added (arrival s.next m.date m.octets m.flags)) s refl tt (few_keywords m.flags few) lt kept

added_keep : (user : List ℕ) (added : List NewMessage) (s : Summary) → list_all (λ (m : NewMessage). not (has_too_many m.flags)) added ≡ true
    → s.shared + length added ≤ max_events → IsKept s → Keeps s (with_added user added s)
added_keep user [] s few le kept = itself s kept
added_keep user (m ∷ added) s few le kept =
    let parts = and_parts (not (has_too_many m.flags)) (list_all (λ (m : NewMessage). not (has_too_many m.flags)) added) few in
    let one = new_keeps user m s parts.0 (omega (arith, le)) kept in
    let count = new_added user m s in
    and_then s (with_new user m s) _ one (added_keep user added (with_new user m s) parts.1 (omega (arith, le, count.shared)) one.kept)

flags_keep : (uid : ℕ) (o : Option SharedFlags) (s : Summary) → are_few o ≡ true → s.shared + one_if (is_some o) ≤ max_events → IsKept s → Keeps s (with_new_flags uid o s)
flags_keep uid None s few le kept = itself s kept
flags_keep uid (Some flags) s few le kept = by (is_there uid s)
  where
    by : (b : Bool) → Keeps s (cond b (step (FlagsSet uid flags) s) s)
    by true = event_keeps (FlagsSet uid flags) s tt tt (few_keywords flags few) (omega (arith, le)) kept
    by false = itself s kept

mark_keeps : (user : List ℕ) (k : FlagUpdate) (s : Summary) → are_few k.flags ≡ true → s.shared + one_if (is_some k.flags) ≤ max_events → IsKept s → Keeps s (with_mark user k s)
mark_keeps user k s few le kept =
    let one = flags_keep k.uid k.flags s few le kept in
    let between : Summary = with_new_flags k.uid k.flags s in
    and_then s between _ one (seen_by (Keeps between) user k.uid k.seen between (λ seen. own_keeps user k.uid seen between one.kept) (itself between one.kept))

marks_keep : (user : List ℕ) (marks : List FlagUpdate) (s : Summary) → list_all (λ (k : FlagUpdate). are_few k.flags) marks ≡ true
    → s.shared + flag_count marks ≤ max_events → IsKept s → Keeps s (with_marks user marks s)
marks_keep user [] s few le kept = itself s kept
marks_keep user (k ∷ marks) s few le kept =
    let parts = and_parts (are_few k.flags) (list_all (λ (k : FlagUpdate). are_few k.flags) marks) few in
    let all = flags_counted k marks in
    let one = mark_keeps user k s parts.0 (omega (arith, le, all)) kept in
    let count = mark_fewer user k s in
    and_then s (with_mark user k s) _ one (marks_keep user marks (with_mark user k s) parts.1 (omega (arith, le, all, count.shared)) one.kept)

expunges_keep : (uids : List ℕ) (s : Summary) → s.shared + length uids ≤ max_events → IsKept s → Keeps s (with_expunges uids s)
expunges_keep [] s le kept = itself s kept
expunges_keep (uid ∷ uids) s le kept = by (is_there uid s) refl (λ t. expunges_keep uids t)
  where
    by : (b : Bool) → is_there uid s ≡ b → ((t : Summary) → t.shared + length uids ≤ max_events → IsKept t → Keeps t (with_expunges uids t)) → Keeps s (with_expunges uids (cond b (with_expunge uid s) s))
    by true t rest =
        let one = event_keeps (Expunged uid) s tt t tt (omega (arith, le)) kept in
        and_then s (with_expunge uid s) _ one (rest (with_expunge uid s) (omega (arith, le)) one.kept)
    by false f rest = rest s (omega (arith, le)) kept

-- ---- all of it

pub batch_keeps : (b : Batch) (s : Summary) → has_few_keywords b ≡ true → s.shared + event_count b ≤ max_events → IsKept s → Keeps s (with_batch b s)
batch_keeps b s few le kept =
    let parts = and_parts (list_all (λ (m : NewMessage). not (has_too_many m.flags)) b.added) (list_all (λ (k : FlagUpdate). are_few k.flags) b.marks) few in
    let added : Summary = with_added b.user b.added s in
    let marked : Summary = with_marks b.user b.marks added in
    let one = added_keep b.user b.added s parts.0 (omega (arith, le)) kept in
    let first = all_added b.user b.added s in
    let two = marks_keep b.user b.marks added parts.1 (omega (arith, le, first.shared)) one.kept in
    let second = marks_fewer b.user b.marks added in
    let three = expunges_keep b.expunged marked (omega (arith, le, first.shared, second.shared)) two.kept in
    and_then s added _ one (and_then added marked _ two three)

pub events_left : (b : Batch) (s : Summary) → has_numbers b s ≡ true → s.shared + event_count b ≤ max_events
events_left b s e = leb-true (s.shared + event_count b) max_events (and_parts (has_uids (length b.added) s.next) (nat_le (s.shared + event_count b) max_events) e).1

pub batches_keep : BatchesKeep
batches_keep s w may kept =
    let all = batch_keeps w.batch s may.keywords (events_left w.batch s may.numbers) kept in
    (all.kept, all.grown)

-- ---- what is found

ok_same : {A E : Type 0} (x y : A) → ◌≡◌ {A = Result A E} (Ok x) (Ok y) → x ≡ y
ok_same x y e = cc e

err_ok : {A E : Type 0} (x : E) (y : A) → ◌≡◌ {A = Result A E} (Err x) (Ok y) → ⊥
err_ok x y e = absurd (cc e)

pub writes_may_be_made : WritesMayBeMade
writes_may_be_made b s w found = by (has_few_keywords b && has_numbers b s) (has_messages b s) refl refl found
  where
    by : (x y : Bool) → has_few_keywords b && has_numbers b s ≡ x → has_messages b s ≡ y
        → ◌≡◌ {A = Result BatchWrite BatchError} (cond x (cond y (Ok (write_of b s)) (Err NoSuchUid)) (Err Limit)) (Ok w) → (w.batch ≡ b) × MayWrite w s
    by false y few there e = absurd (err_ok Limit w e)
    by true false few there e = absurd (err_ok NoSuchUid w e)
    by true true few there e =
        let parts = and_parts (has_few_keywords b) (has_numbers b s) few in
        subst (λ (w : BatchWrite). (w.batch ≡ b) × MayWrite w s) (ok_same (write_of b s) w e)
        (refl, record { current = refl; keywords = parts.0; numbers = parts.1; messages = there })
