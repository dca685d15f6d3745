-- The rows of a store are what a batch makes.
use Rattle.std.proofs.Common.{◌≡◌, ◌≢◌, ℕ, zero, suc, ◌+◌, ◌-◌, Bool, true, false, cond, ◌&&◌, List, [], ◌∷◌, ◌++◌, append_assoc, append-nil, length, take, map, Option, Some, None, refl, sym, ap, subst, ◌∙◌, arith}
use Rattle.std.specs.Prelude.{nat_lt, nat_le, is_some}
use Rattle.std.proofs.lemmas.Bool.{and_parts, ltb-true, ltb-false}
use Rattle.std.proofs.lemmas.List.{length_push}
use Rattle.imap_modseq.specs.Numbers.{max_events}
use Rattle.imap_mailbox.specs.declared.flags.SharedFlags.{SharedFlags}
use Rattle.imap_mailbox.specs.declared.message.Message.{Message}
use Rattle.imap_mailbox.specs.declared.own.SeenChange.{SeenChange}
use Rattle.imap_mailbox.specs.Calls.{arrival, if_there}
use Rattle.imap_mailbox.specs.Expunging.{without_all, uids_there, gone_at}
use Rattle.imap_mailbox.specs.Own.{Own, own_at, with_change, with_changes}
use Rattle.imap_mailbox.specs.Rows.{Added, FlagsSet, is_among}
use Rattle.imap_mailbox.specs.Summary.{Summary, flags_in, is_there, uids_in, with_flags, with_seen}
use Rattle.imap_mailbox.proofs.ExpungedAll.{by_lists, by_lists_of}
use Rattle.imap_mailbox.proofs.Fitting.{uids_step}
use Rattle.imap_mailbox.proofs.Merged.{own_at-same, own_at-other}
use Rattle.imap_batch.specs.declared.batch.NewMessage.{NewMessage}
use Rattle.imap_batch.specs.declared.batch.FlagUpdate.{FlagUpdate}
use Rattle.imap_batch.specs.declared.batch.Batch.{Batch}
use Rattle.imap_batch.specs.declared.write.BatchWrite.{BatchWrite}
use Rattle.imap_batch.specs.Batch.{one_if, flag_count, are_known, has_messages, mark_uids, own_added, own_change, own_marked, write_of}
use Rattle.imap_batch.specs.Written.{with_own, with_message, with_new, with_added, with_new_flags, with_new_seen, with_mark, with_marks, with_batch}
use Rattle.imap_batch.specs.Entered.{FlagChange, messages_from, flag_change, flags_from, with_flag_changes, IsEntered, WritesAreEntered}
use Rattle.imap_batch.proofs.Steps.{known_rise, own_by, own_stays, seen_by, new_seen_stays, new_by, flags_by, all_added}
use Rattle.imap_batch.proofs.Known.{among_last, known_append}

-- ---- own changes

-- each is made if the user has an event left
abbrev put : List SeenChange → Own → Own
put [] own = own
put (c ∷ changes) own = put changes (cond (nat_lt (length own.befores) max_events) (with_change c own) own)

put_append : (a b : List SeenChange) (own : Own) → put (a ++ b) own ≡ put b (put a own)
put_append [] b own = refl
put_append (c ∷ a) b own = put_append a b (cond (nat_lt (length own.befores) max_events) (with_change c own) own)

take_none : (n : ℕ) → take {A = SeenChange} n [] ≡ []
take_none zero = refl
take_none (suc n) = refl

put_is : (changes : List SeenChange) (own : Own) → put changes own ≡ with_changes (take (max_events - length own.befores) changes) own
put_is [] own = ap (λ cs. with_changes cs own) (sym (take_none (max_events - length own.befores)))
put_is (c ∷ changes) own = by (nat_lt (length own.befores) max_events) refl (λ own. put_is changes own)
  where
    by : (x : Bool) → nat_lt (length own.befores) max_events ≡ x → ((own : Own) → put changes own ≡ with_changes (take (max_events - length own.befores) changes) own)
        → put changes (cond x (with_change c own) own) ≡ with_changes (take (max_events - length own.befores) (c ∷ changes)) own
    by true lt rest =
        let less = ltb-true (length own.befores) max_events lt in
        let left : max_events - length own.befores ≡ suc (max_events - (length own.befores + 1)) = omega (arith, less) in
        rest (with_change c own) ∙ ap (λ n. with_changes (take (max_events - n) changes) (with_change c own)) (length_push own.befores c.before)
        ∙ ap (λ n. with_changes (take n (c ∷ changes)) own) (sym left)
    by false full rest =
        let most = ltb-false (length own.befores) max_events full in
        let none : max_events - length own.befores ≡ 0 = omega (arith, most) in
        rest own ∙ ap (λ n. with_changes (take n changes) own) none ∙ ap (λ n. with_changes (take n (c ∷ changes)) own) (sym none)

own_put : (user : List ℕ) (uid : ℕ) (seen : Bool) (s : Summary) → is_there uid s ≡ true
    → own_at (with_own user uid seen s).own user ≡ put (record { before = s.shared; uid = uid; seen = seen } ∷ []) (own_at s.own user)
own_put user uid seen s there = by (nat_lt (length (own_at s.own user).befores) max_events)
  where
    by : (x : Bool) → own_at (cond x (if_there uid (with_seen user uid seen s) s) s).own user
        ≡ cond x (with_change (record { before = s.shared; uid = uid; seen = seen }) (own_at s.own user)) (own_at s.own user)
    by true = ap (λ z. own_at (cond z (with_seen user uid seen s) s).own user) there ∙ own_at-same s.own user s.shared uid seen
    by false = refl

-- of other users nothing changes
module _ (user q : List ℕ) (apart : q ≢ user) where
  own_other : (uid : ℕ) (seen : Bool) (s : Summary) → own_at (with_own user uid seen s).own q ≡ own_at s.own q
  own_other uid seen s = own_by (λ t. own_at t.own q ≡ own_at s.own q) user uid seen s (λ lt t. own_at-other s.own q user s.shared uid seen apart) refl

  added_other : (added : List NewMessage) (s : Summary) → own_at (with_added user added s).own q ≡ own_at s.own q
  added_other [] s = refl
  added_other (m ∷ added) s =
      added_other added (with_new user m s) ∙ new_by (λ t. own_at t.own q ≡ own_at s.own q) user m s (own_other s.next true (with_message m s)) refl

  marks_other : (marks : List FlagUpdate) (s : Summary) → own_at (with_marks user marks s).own q ≡ own_at s.own q
  marks_other [] s = refl
  marks_other (k ∷ marks) s =
      let between : Summary = with_new_flags k.uid k.flags s in
      marks_other marks (with_mark user k s)
      ∙ seen_by (λ t. own_at t.own q ≡ own_at between.own q) user k.uid k.seen between (λ seen. own_other k.uid seen between) refl
      ∙ flags_by (λ t. own_at t.own q ≡ own_at s.own q) k.uid k.flags s (λ flags e. refl) refl

-- ---- messages that are added

module _ (user : List ℕ) where
  record IsNew (m : NewMessage) (s t : Summary) : Type 0 where
    pub messages : t.messages ≡ s.messages ++ record { uid = s.next; date = m.date; octets = m.octets; flags = m.flags; place = s.shared } ∷ []
    pub gone : t.gone ≡ s.gone
    pub next : t.next ≡ s.next + 1
    pub shared : t.shared ≡ s.shared + 1

  new_is : (m : NewMessage) (s : Summary) → IsNew m s (with_new user m s)
  new_is m s =
      let same = own_stays user s.next true (with_message m s) in
      new_by (IsNew m s) user m s (record { messages = same.messages; gone = same.gone; next = same.next; shared = same.shared })
      (record { messages = refl; gone = refl; next = refl; shared = refl })

  new_there : (m : NewMessage) (s : Summary) → is_there s.next (with_message m s) ≡ true
  new_there m s = ap (is_among s.next) (uids_step (Added (arrival s.next m.date m.octets m.flags)) s) ∙ among_last s.next (uids_in s.messages)

  abbrev own_new : NewMessage → Summary → List SeenChange
  own_new m s = cond m.seen (record { before = s.shared + 1; uid = s.next; seen = true } ∷ []) []

  new_own : (m : NewMessage) (s : Summary) → own_at (with_new user m s).own user ≡ put (own_new m s) (own_at s.own user)
  new_own m s = by m.seen
    where
      by : (b : Bool) → own_at (cond b (with_own user s.next true (with_message m s)) (with_message m s)).own user
          ≡ put (cond b (record { before = s.shared + 1; uid = s.next; seen = true } ∷ []) []) (own_at s.own user)
      by true = own_put user s.next true (with_message m s) (new_there m s)
      by false = refl

  record AreNew (added : List NewMessage) (s t : Summary) : Type 0 where
    pub messages : t.messages ≡ s.messages ++ messages_from s.next s.shared added
    pub gone : t.gone ≡ s.gone
    pub own : own_at t.own user ≡ put (own_added s.next s.shared added) (own_at s.own user)

  added_are : (added : List NewMessage) (s : Summary) → AreNew added s (with_added user added s)
  added_are [] s = record { messages = sym (append-nil s.messages); gone = refl; own = refl }
  added_are (m ∷ added) s =
      let one = new_is m s in
      let rest = added_are added (with_new user m s) in
      record {
        messages = rest.messages ∙ (λ i. one.messages i ++ messages_from (one.next i) (one.shared i) added)
            ∙ append_assoc s.messages (record { uid = s.next; date = m.date; octets = m.octets; flags = m.flags; place = s.shared } ∷ []) (messages_from (s.next + 1) (s.shared + 1) added);
        gone = rest.gone ∙ one.gone;
        own = rest.own ∙ (λ i. put (own_added (one.next i) (one.shared i) added) (new_own m s i))
            ∙ sym (put_append (own_new m s) (own_added (s.next + 1) (s.shared + 1) added) (own_at s.own user));
      }

-- ---- flags that change

changes_append : (a b : List FlagChange) (messages : List Message) → with_flag_changes (a ++ b) messages ≡ with_flag_changes b (with_flag_changes a messages)
changes_append [] b messages = refl
changes_append (c ∷ a) b messages = changes_append a b (map (flags_in c.uid c.flags c.place) messages)

record AreFlags (uid : ℕ) (o : Option SharedFlags) (s t : Summary) : Type 0 where
  pub messages : t.messages ≡ with_flag_changes (flag_change s.shared uid o) s.messages
  pub gone : t.gone ≡ s.gone
  pub next : t.next ≡ s.next
  pub shared : t.shared ≡ s.shared + one_if (is_some o)
  pub uids : uids_in t.messages ≡ uids_in s.messages
  pub own : t.own ≡ s.own

flags_are : (uid : ℕ) (o : Option SharedFlags) (s : Summary) → is_there uid s ≡ true → AreFlags uid o s (with_new_flags uid o s)
flags_are uid None s there = record { messages = refl; gone = refl; next = refl; shared = omega arith; uids = refl; own = refl }
flags_are uid (Some flags) s there =
    subst (λ z. AreFlags uid (Some flags) s (cond z (with_flags uid flags s) s)) (sym there)
    (record { messages = refl; gone = refl; next = refl; shared = refl; uids = uids_step (FlagsSet uid flags) s; own = refl })

seen_own : (user : List ℕ) (uid : ℕ) (o : Option Bool) (s : Summary) → is_there uid s ≡ true
    → own_at (with_new_seen user uid o s).own user ≡ put (own_change s.shared uid o) (own_at s.own user)
seen_own user uid None s there = refl
seen_own user uid (Some seen) s there = own_put user uid seen s there

module _ (user : List ℕ) where
  record AreMarked (marks : List FlagUpdate) (s t : Summary) : Type 0 where
    pub messages : t.messages ≡ with_flag_changes (flags_from s.shared marks) s.messages
    pub gone : t.gone ≡ s.gone
    pub next : t.next ≡ s.next
    pub shared : t.shared ≡ s.shared + flag_count marks
    pub uids : uids_in t.messages ≡ uids_in s.messages
    pub own : own_at t.own user ≡ put (own_marked s.shared marks) (own_at s.own user)

  marks_are : (l : ℕ) (marks : List FlagUpdate) (s : Summary) → are_known l (mark_uids marks) (uids_in s.messages) ≡ true → AreMarked marks s (with_marks user marks s)
  marks_are l [] s e = record { messages = refl; gone = refl; next = refl; shared = omega arith; uids = refl; own = refl }
  marks_are l (k ∷ marks) s e =
      let us = uids_in s.messages in
      let first = and_parts (nat_le l k.uid) (is_among k.uid us && are_known (k.uid + 1) (mark_uids marks) us) e in
      let parts = and_parts (is_among k.uid us) (are_known (k.uid + 1) (mark_uids marks) us) first.1 in
      let between : Summary = with_new_flags k.uid k.flags s in
      let one = flags_are k.uid k.flags s parts.0 in
      let two = new_seen_stays user k.uid k.seen between in
      let own = seen_own user k.uid k.seen between (ap (is_among k.uid) one.uids ∙ parts.0) in
      let shared = two.shared ∙ one.shared in
      let uids = ap uids_in two.messages ∙ one.uids in
      let rest = marks_are (k.uid + 1) marks (with_mark user k s) (ap (are_known (k.uid + 1) (mark_uids marks)) uids ∙ parts.1) in
      record {
        messages = rest.messages ∙ (λ i. with_flag_changes (flags_from (shared i) marks) ((two.messages ∙ one.messages) i))
            ∙ sym (changes_append (flag_change s.shared k.uid k.flags) (flags_from (s.shared + one_if (is_some k.flags)) marks) s.messages);
        gone = rest.gone ∙ two.gone ∙ one.gone;
        next = rest.next ∙ two.next ∙ one.next;
        shared = omega (arith, rest.shared, shared);
        uids = rest.uids ∙ uids;
        own = rest.own
            ∙ (λ i. put (own_marked (shared i) marks) ((own ∙ λ j. put (own_change (one.shared j) k.uid k.seen) (own_at (one.own j) user)) i))
            ∙ sym (put_append (own_change (s.shared + one_if (is_some k.flags)) k.uid k.seen) (own_marked (s.shared + one_if (is_some k.flags)) marks) (own_at s.own user));
      }

-- ---- messages that are expunged

all_there : (l : ℕ) (uids : List ℕ) (messages : List Message) → are_known l uids (uids_in messages) ≡ true → uids_there uids messages ≡ uids
all_there l [] messages e = refl
all_there l (uid ∷ uids) messages e =
    let first = and_parts (nat_le l uid) (is_among uid (uids_in messages) && are_known (uid + 1) uids (uids_in messages)) e in
    let rest = and_parts (is_among uid (uids_in messages)) (are_known (uid + 1) uids (uids_in messages)) first.1 in
    λ i. cond (rest.0 i) (uid ∷ all_there (uid + 1) uids messages rest.1 i) (all_there (uid + 1) uids messages rest.1 i)

uids_append : (a b : List Message) → uids_in (a ++ b) ≡ uids_in a ++ uids_in b
uids_append [] b = refl
uids_append (m ∷ a) b = ap (λ us. m.uid ∷ us) (uids_append a b)

-- ---- all of it

module _ (b : Batch) (s : Summary) (messages : has_messages b s ≡ true) where
  abbrev added : Summary
  added = with_added b.user b.added s

  abbrev marked : Summary
  marked = with_marks b.user b.marks added

  known : (are_known 0 (mark_uids b.marks) (uids_in s.messages) ≡ true) × (are_known 0 b.expunged (uids_in s.messages) ≡ true)
  known = and_parts (are_known 0 (mark_uids b.marks) (uids_in s.messages)) (are_known 0 b.expunged (uids_in s.messages)) messages

  one : AreNew b.user b.added s added
  one = added_are b.user b.added s

  counts : (added.next ≡ s.next + length b.added) × (added.shared ≡ s.shared + length b.added)
  counts = let all = all_added b.user b.added s in (all.next, all.shared)

  later : (uids : List ℕ) → are_known 0 uids (uids_in s.messages) ≡ true → are_known 0 uids (uids_in added.messages) ≡ true
  later uids e =
      ap (are_known 0 uids) (ap uids_in one.messages ∙ uids_append s.messages (messages_from s.next s.shared b.added))
      ∙ known_append 0 uids (uids_in s.messages) (uids_in (messages_from s.next s.shared b.added)) e

  two : AreMarked b.user b.marks added marked
  two = marks_are b.user 0 b.marks added (later (mark_uids b.marks) known.0)

  there : are_known 0 b.expunged (uids_in marked.messages) ≡ true
  there = ap (are_known 0 b.expunged) two.uids ∙ later b.expunged known.1

  three : with_batch b s ≡ by_lists_of b.expunged marked
  three = let rise = known_rise 0 b.expunged (uids_in marked.messages) there in by_lists 0 rise.0 b.expunged marked rise.1

  all : uids_there b.expunged marked.messages ≡ b.expunged
  all = all_there 0 b.expunged marked.messages there

  entered : IsEntered (write_of b s) s (with_batch b s)
  entered = subst (IsEntered (write_of b s) s) (sym three) (record {
    messages = ap (without_all b.expunged) (two.messages ∙ λ i. with_flag_changes (flags_from (counts.1 i) b.marks) (one.messages i));
    gone = λ i. (two.gone ∙ one.gone) i ++ gone_at ((two.shared ∙ ap (λ n. n + flag_count b.marks) counts.1) i) (all i);
    next = two.next ∙ counts.0;
    shared = omega (arith, ap length all, two.shared, counts.1);
    own = two.own ∙ (λ i. put (own_marked (counts.1 i) b.marks) (one.own i))
        ∙ sym (put_append (own_added s.next s.shared b.added) (own_marked (s.shared + length b.added) b.marks) (own_at s.own b.user))
        ∙ put_is (own_added s.next s.shared b.added ++ own_marked (s.shared + length b.added) b.marks) (own_at s.own b.user);
    others = λ q apart. marks_other b.user q apart b.marks added ∙ added_other b.user q apart b.added s;
  })

pub writes_are_entered : WritesAreEntered
writes_are_entered s w may = subst (λ (x : BatchWrite). IsEntered x s (with_batch w.batch s)) (sym may.current) (entered w.batch s may.messages)
