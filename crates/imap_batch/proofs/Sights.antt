-- What a user sees of a batch.
use Rattle.std.proofs.Common.{◌≡◌, ◌≢◌, ℕ, eqb, ◌+◌, ◌-◌, ◌≤◌, Bool, true, false, cond, not, ◌||◌, ◌&&◌, List, [], ◌∷◌, length, Option, Some, None, option_map, Ok, Err, refl, sym, ap, subst, ◌∙◌, arith}
use Rattle.std.specs.Prelude.{nat_lt, nat_le, is_some}
use Rattle.std.specs.List.{list_all}
use Rattle.std.proofs.lemmas.Bool.{and_parts, and_from, le-leb, eq-eqb}
use Rattle.imap_modseq.specs.Numbers.{max_events}
use Rattle.imap_mailbox.specs.declared.flags.SharedFlags.{SharedFlags}
use Rattle.imap_mailbox.specs.History.{end_uid, room_by}
use Rattle.imap_mailbox.specs.Own.{own_at}
use Rattle.imap_mailbox.specs.Held.{IsKept}
use Rattle.imap_mailbox.specs.Rows.{Added, FlagsSet}
use Rattle.imap_mailbox.specs.Summary.{Summary, IsSound, with_seen, uids_in, room_of}
use Rattle.imap_mailbox.specs.Shown.{Content, Rights, Shown, content_of, shown_to, content_with_seen, if_shown, content_expunged, room_in}
use Rattle.imap_mailbox.specs.Calls.{arrival, if_there}
use Rattle.imap_mailbox.specs.Expunging.{with_expunges}
use Rattle.imap_mailbox.proofs.DecidedShown.{decided_is_seen, shows_expunged}
use Rattle.imap_mailbox.proofs.Fitting.{sound_step, sound_marked}
use Rattle.imap_mailbox.proofs.Isolated.{anothers_seen_is_hidden, shows_after, room_seen}
use Rattle.imap_mailbox.proofs.Lending.{uids_lent}
use Rattle.imap_batch.specs.declared.batch.NewMessage.{NewMessage}
use Rattle.imap_batch.specs.declared.batch.FlagUpdate.{FlagUpdate}
use Rattle.imap_batch.specs.declared.batch.Batch.{Batch}
use Rattle.imap_batch.specs.declared.error.BatchError.TheVariants.{Limit, NoSuchUid}
use Rattle.imap_batch.specs.Batch.{are_known, event_count, flag_count, has_few_keywords, has_numbers, has_uids, has_messages, mark_uids, write_of, write_for}
use Rattle.imap_batch.specs.Written.{with_own, with_message, with_new, with_added, with_new_flags, with_new_seen, with_mark, with_marks, with_batch}
use Rattle.imap_batch.specs.Seen.{own_seen, message_seen, new_seen, added_seen, flags_seen, seen_seen, mark_seen, marks_seen, content_batched, batch_seen, batch_seen_by, HasRoomToAdd, CanChange, IsPossible}
use Rattle.imap_batch.specs.Laws.{BatchIsSeen, PossibleIsMade, AnothersSeenIsHidden, EmptyChangesNothing}
use Rattle.imap_batch.proofs.Steps.{given_there, own_by, seen_by, new_by, flags_by, all_added}

-- ---- what stays sound

sound_own : (user : List ℕ) (uid : ℕ) (seen : Bool) (s : Summary) → IsSound s → IsSound (with_own user uid seen s)
sound_own user uid seen s h = own_by IsSound user uid seen s (λ lt t. sound_marked user uid seen s (given_there uid s h t) h) h

sound_message : (m : NewMessage) (s : Summary) → IsSound s → IsSound (with_message m s)
sound_message m s h = sound_step (Added (arrival s.next m.date m.octets m.flags)) s refl tt h

sound_new : (user : List ℕ) (m : NewMessage) (s : Summary) → IsSound s → IsSound (with_new user m s)
sound_new user m s h = new_by IsSound user m s (sound_own user s.next true (with_message m s) (sound_message m s h)) (sound_message m s h)

sound_added : (user : List ℕ) (added : List NewMessage) (s : Summary) → IsSound s → IsSound (with_added user added s)
sound_added user [] s h = h
sound_added user (m ∷ added) s h = sound_added user added (with_new user m s) (sound_new user m s h)

sound_flags : (uid : ℕ) (o : Option SharedFlags) (s : Summary) → IsSound s → IsSound (with_new_flags uid o s)
sound_flags uid o s h = flags_by IsSound uid o s (λ flags e. sound_step (FlagsSet uid flags) s tt tt h) h

sound_mark : (user : List ℕ) (k : FlagUpdate) (s : Summary) → IsSound s → IsSound (with_mark user k s)
sound_mark user k s h =
    let between : Summary = with_new_flags k.uid k.flags s in
    let sound : IsSound between = sound_flags k.uid k.flags s h in
    seen_by IsSound user k.uid k.seen between (λ seen. sound_own user k.uid seen between sound) sound

sound_marks : (user : List ℕ) (marks : List FlagUpdate) (s : Summary) → IsSound s → IsSound (with_marks user marks s)
sound_marks user [] s h = h
sound_marks user (k ∷ marks) s h = sound_marks user marks (with_mark user k s) (sound_mark user k s h)

-- ---- to one who may read

module _ (user : List ℕ) where
  shows_own : (uid : ℕ) (seen : Bool) (s : Summary) → IsSound s → content_of user (with_own user uid seen s) ≡ own_seen uid seen (content_of user s)
  shows_own uid seen s h = by (nat_lt (length (own_at s.own user).befores) max_events)
    where
      by : (b : Bool) → content_of user (cond b (if_there uid (with_seen user uid seen s) s) s)
          ≡ cond b (if_shown uid (content_with_seen uid seen (content_of user s)) (content_of user s)) (content_of user s)
      by true = (decided_is_seen user s uid h).1 seen
      by false = refl

  shows_message : (m : NewMessage) (s : Summary) → IsSound s → content_of user (with_message m s) ≡ message_seen m (content_of user s)
  shows_message m s h = shows_after user s (Added (arrival s.next m.date m.octets m.flags)) h refl

  shows_new : (m : NewMessage) (s : Summary) → IsSound s → content_of user (with_new user m s) ≡ new_seen m (content_of user s)
  shows_new m s h = by m.seen
    where
      by : (b : Bool) → content_of user (cond b (with_own user s.next true (with_message m s)) (with_message m s))
          ≡ cond b (own_seen s.next true (message_seen m (content_of user s))) (message_seen m (content_of user s))
      by true = shows_own s.next true (with_message m s) (sound_message m s h) ∙ ap (own_seen s.next true) (shows_message m s h)
      by false = shows_message m s h

  shows_added : (added : List NewMessage) (s : Summary) → IsSound s → content_of user (with_added user added s) ≡ added_seen added (content_of user s)
  shows_added [] s h = refl
  shows_added (m ∷ added) s h = shows_added added (with_new user m s) (sound_new user m s h) ∙ ap (added_seen added) (shows_new m s h)

  shows_flags : (uid : ℕ) (o : Option SharedFlags) (s : Summary) → IsSound s → content_of user (with_new_flags uid o s) ≡ flags_seen uid o (content_of user s)
  shows_flags uid None s h = refl
  shows_flags uid (Some flags) s h = (decided_is_seen user s uid h).0 flags

  shows_seen : (uid : ℕ) (o : Option Bool) (s : Summary) → IsSound s → content_of user (with_new_seen user uid o s) ≡ seen_seen uid o (content_of user s)
  shows_seen uid None s h = refl
  shows_seen uid (Some seen) s h = shows_own uid seen s h

  shows_mark : (k : FlagUpdate) (s : Summary) → IsSound s → content_of user (with_mark user k s) ≡ mark_seen k (content_of user s)
  shows_mark k s h =
      shows_seen k.uid k.seen (with_new_flags k.uid k.flags s) (sound_flags k.uid k.flags s h) ∙ ap (seen_seen k.uid k.seen) (shows_flags k.uid k.flags s h)

  shows_marks : (marks : List FlagUpdate) (s : Summary) → IsSound s → content_of user (with_marks user marks s) ≡ marks_seen marks (content_of user s)
  shows_marks [] s h = refl
  shows_marks (k ∷ marks) s h = shows_marks marks (with_mark user k s) (sound_mark user k s h) ∙ ap (marks_seen marks) (shows_mark k s h)

pub shows_batch : (b : Batch) (s : Summary) → IsSound s → content_of b.user (with_batch b s) ≡ content_batched b (content_of b.user s)
shows_batch b s h =
    let added : Summary = with_added b.user b.added s in
    let sound : IsSound added = sound_added b.user b.added s h in
    shows_expunged b.user b.expunged (with_marks b.user b.marks added) (sound_marks b.user b.marks added sound)
    ∙ ap (content_expunged b.expunged) (shows_marks b.user b.marks added sound ∙ ap (marks_seen b.marks) (shows_added b.user b.added s h))

-- ---- to anyone

room_less : (most messages next shared messages_after next_after shared_after n : ℕ) → messages_after ≡ messages + n → next_after ≡ next + n → shared_after ≡ shared + n
    → room_by most messages_after next_after shared_after ≡ room_by most messages next shared - n
room_less most messages next shared messages_after next_after shared_after n a b c = omega (arith, a, b, c)

module _ (most : ℕ) (r : Rights) (s : Summary) (b : Batch) where
  abbrev before : Shown
  before = shown_to most b.user r s

  abbrev content : Content
  content = content_of b.user s

  module _ (sound : IsSound s) (may : (r.read || r.admin) ≡ true) where
    any : (r.read || (r.insert || r.admin)) ≡ true
    any = grind arith

    reader_sees : shown_to most b.user r (with_batch b s) ≡ batch_seen most b before
    reader_sees =
        (λ i. record {
          content = cond (may i) (Some (shows_batch b s sound i)) None;
          room = cond (any i) (Some ((room_seen most b.user (with_batch b s) ∙ ap (room_in most) (shows_batch b s sound)) i)) None;
        })
        ∙ ap (λ x. batch_seen_by most b before.room (cond x (Some content) None)) (sym may)

  module _ (may : (r.read || r.admin) ≡ false) (possible : CanChange b before.content) where
    only : (b.marks ≡ []) × (b.expunged ≡ [])
    only = subst (λ x. CanChange b (cond x (Some content) None)) may possible

    is_added : with_batch b s ≡ with_added b.user b.added s
    is_added = λ i. with_expunges (only.1 i) (with_marks b.user (only.0 i) (with_added b.user b.added s))

    less : room_of most (with_added b.user b.added s) ≡ room_of most s - length b.added
    less =
        let all = all_added b.user b.added s in
        room_less most (length s.messages) s.next s.shared _ _ _ (length b.added) all.length all.next all.shared

    other_sees : shown_to most b.user r (with_batch b s) ≡ batch_seen most b before
    other_sees =
        (λ i. record {
          content = cond (may i) (Some (content_of b.user (with_batch b s))) None;
          room = cond (r.read || (r.insert || r.admin)) (Some ((ap (room_of most) is_added ∙ less) i)) None;
        })
        ∙ by (r.read || (r.insert || r.admin))
        ∙ ap (λ x. batch_seen_by most b before.room (cond x (Some content) None)) (sym may)
      where
        by : (x : Bool) → ◌≡◌ {A = Shown} (record { content = None; room = cond x (Some (room_of most s - length b.added)) None })
            (record { content = None; room = option_map (λ n. n - length b.added) (cond x (Some (room_of most s)) None) })
        by true = refl
        by false = refl

  pub batch_sees : IsKept s → IsPossible b before → shown_to most b.user r (with_batch b s) ≡ batch_seen most b before
  batch_sees kept possible = by (r.read || r.admin) refl
    where
      by : (x : Bool) → (r.read || r.admin) ≡ x → shown_to most b.user r (with_batch b s) ≡ batch_seen most b before
      by true may = reader_sees kept.sound may
      by false may = other_sees may possible.content

pub batch_is_seen : BatchIsSeen
batch_is_seen most user r s b kept is possible =
    ap (λ u. shown_to most u r (with_batch b s)) (sym is)
    ∙ batch_sees most r s b kept (subst (λ u. IsPossible b (shown_to most u r s)) (sym is) possible)
    ∙ ap (λ u. batch_seen most b (shown_to most u r s)) is

-- ---- what is possible can be made

uids_of_room : (n most : ℕ) (s : Summary) (x : Bool) → HasRoomToAdd n (cond x (Some (room_of most s)) None) → has_uids n s.next ≡ true
uids_of_room n most s x h = by (eqb n 0) refl
  where
    room : (x : Bool) → n ≢ 0 → HasRoomToAdd n (cond x (Some (room_of most s)) None) → s.next + n ≤ end_uid
    room true some le = omega (arith, le, some)
    room false some none = absurd (some none)

    by : (z : Bool) → eqb n 0 ≡ z → z || nat_le (s.next + n) end_uid ≡ true
    by true none = refl
    by false some = le-leb (s.next + n) end_uid (room x (λ e. absurd (cc (sym (eq-eqb n 0 e) ∙ some))) h)

events_of_room : (n most : ℕ) (s : Summary) (x : Bool) → s.shared ≤ max_events → HasRoomToAdd n (cond x (Some (room_of most s)) None) → s.shared + n ≤ max_events
events_of_room n most s true few le = omega (arith, le, few)
events_of_room n most s false few none = omega (arith, none, few)

module _ (most : ℕ) (user : List ℕ) (r : Rights) (s : Summary) (b : Batch) (kept : IsKept s) (possible : IsPossible b (shown_to most user r s)) where
  can : (x : Bool) → CanChange b (cond x (Some (content_of user s)) None) → (s.shared + event_count b ≤ max_events) × (has_messages b s ≡ true)
  can true h = (
    h.0,
    and_from (are_known 0 (mark_uids b.marks) (uids_in s.messages)) (are_known 0 b.expunged (uids_in s.messages))
        (ap (are_known 0 (mark_uids b.marks)) (uids_lent (own_at s.own user) s.messages) ∙ h.1)
        (ap (are_known 0 b.expunged) (uids_lent (own_at s.own user) s.messages) ∙ h.2),
  )
  can false h = (few, λ i. are_known 0 (mark_uids (h.0 i)) (uids_in s.messages) && are_known 0 (h.1 i) (uids_in s.messages))
    where
      few : s.shared + event_count b ≤ max_events
      few =
          let all = events_of_room (length b.added) most s (r.read || (r.insert || r.admin)) kept.few possible.room in
          omega (arith, all, ap flag_count h.0, ap length h.1)

  all_found : write_for b s ≡ Ok (write_of b s)
  all_found =
      let all = can (r.read || r.admin) possible.content in
      let numbers : has_numbers b s ≡ true = and_from (has_uids (length b.added) s.next) (nat_le (s.shared + event_count b) max_events)
      (uids_of_room (length b.added) most s (r.read || (r.insert || r.admin)) possible.room) (le-leb (s.shared + event_count b) max_events all.0) in
      λ i. cond (and_from (has_few_keywords b) (has_numbers b s) possible.keywords numbers i) (cond (all.1 i) (Ok (write_of b s)) (Err NoSuchUid)) (Err Limit)

pub possible_is_made : PossibleIsMade
possible_is_made most user r s b kept possible = record { write = write_of b s; found = all_found most user r s b kept possible }

-- ---- another's own changes

module _ (most : ℕ) (user other : List ℕ) (r : Rights) (apart : user ≢ other) where
  own_hidden : (uid : ℕ) (o : Option Bool) (s : Summary) → shown_to most user r (with_new_seen other uid o s) ≡ shown_to most user r s
  own_hidden uid o s =
      seen_by (λ t. shown_to most user r t ≡ shown_to most user r s) other uid o s
      (λ seen. own_by (λ t. shown_to most user r t ≡ shown_to most user r s) other uid seen s (λ lt t. anothers_seen_is_hidden most user other r s uid seen apart) refl) refl

  no_flags : (uid : ℕ) (o : Option SharedFlags) (s : Summary) → not (is_some o) ≡ true → with_new_flags uid o s ≡ s
  no_flags uid None s e = refl
  no_flags uid (Some flags) s e = absurd (cc e)

  marks_hidden : (marks : List FlagUpdate) (s : Summary) → list_all (λ (k : FlagUpdate). not (is_some k.flags)) marks ≡ true
      → shown_to most user r (with_marks other marks s) ≡ shown_to most user r s
  marks_hidden [] s e = refl
  marks_hidden (k ∷ marks) s e =
      let parts = and_parts (not (is_some k.flags)) (list_all (λ (k : FlagUpdate). not (is_some k.flags)) marks) e in
      marks_hidden marks (with_mark other k s) parts.1
      ∙ own_hidden k.uid k.seen (with_new_flags k.uid k.flags s)
      ∙ ap (shown_to most user r) (no_flags k.uid k.flags s parts.0)

pub anothers_batch_is_hidden : AnothersSeenIsHidden
anothers_batch_is_hidden most user r s b apart only =
    (λ i. shown_to most user r (with_expunges (only.expunged i) (with_marks b.user b.marks (with_added b.user (only.added i) s))))
    ∙ marks_hidden most user b.user r apart b.marks s only.flags

pub empty_changes_nothing : EmptyChangesNothing
empty_changes_nothing s b added marks expunged = λ i. with_expunges (expunged i) (with_marks b.user (marks i) (with_added b.user (added i) s))
