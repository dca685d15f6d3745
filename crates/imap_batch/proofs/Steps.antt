-- What each part of a batch leaves as it was, and what it counts.
use Rattle.std.proofs.Common.{◌≡◌, ℕ, ◌+◌, ◌<◌, ◌≤◌, eqb, Bool, true, false, cond, not, ◌&&◌, ◌||◌, List, [], ◌∷◌, length, Option, Some, None, refl, ◌∙◌, arith}
use Rattle.std.specs.Prelude.{nat_lt, nat_le, is_some}
use Rattle.std.proofs.lemmas.Bool.{and_parts, eqb-true, leb-true, ltb-true, ltb-false}
use Rattle.std.proofs.lemmas.List.{length_push}
use Rattle.imap_modseq.specs.Numbers.{max_events}
use Rattle.imap_mailbox.specs.declared.flags.SharedFlags.{SharedFlags}
use Rattle.imap_mailbox.specs.Flags.{HasFewKeywords, has_too_many}
use Rattle.imap_mailbox.specs.History.{end_uid}
use Rattle.imap_mailbox.specs.Own.{own_at}
use Rattle.imap_mailbox.specs.Rows.{WasGiven, first_uid, is_among}
use Rattle.imap_mailbox.specs.Summary.{Summary, Rises, AreRising, IsSound, is_there, uids_in, with_flags, with_seen}
use Rattle.imap_mailbox.specs.Calls.{if_there}
use Rattle.imap_mailbox.proofs.Rising.{rises_end}
use Rattle.imap_batch.specs.declared.batch.NewMessage.{NewMessage}
use Rattle.imap_batch.specs.declared.batch.FlagUpdate.{FlagUpdate}
use Rattle.imap_batch.specs.Batch.{one_if, are_known, has_uids, flag_count}
use Rattle.imap_batch.specs.Written.{with_own, with_message, with_new, with_added, with_new_flags, with_new_seen, with_mark, with_marks}

-- ---- UIDs

pub among_given : (low high uid : ℕ) (us : List ℕ) → Rises low high us → is_among uid us ≡ true → (low ≤ uid) × (uid < high)
among_given low high uid [] h e = absurd (cc e)
among_given low high uid (u ∷ us) h e = by (eqb u uid) refl e (among_given (u + 1) high uid us h.1)
  where
    first : low ≤ u
    first = h.0

    last : u + 1 ≤ high
    last = rises_end (u + 1) high us h.1

    by : (b : Bool) → eqb u uid ≡ b → b || is_among uid us ≡ true → (is_among uid us ≡ true → (u + 1 ≤ uid) × (uid < high)) → (low ≤ uid) × (uid < high)
    by true same e rest = let is = eqb-true u uid same in (omega (arith, is, first), omega (arith, is, last))
    by false other e rest = let more = rest e in (omega (arith, more.0, first), more.1)

pub given_there : (uid : ℕ) (s : Summary) → IsSound s → is_there uid s ≡ true → WasGiven s.next uid
given_there uid s h e = among_given first_uid s.next uid (uids_in s.messages) h.uids e

-- UIDs that are known rise
pub known_rise : (low : ℕ) (uids known : List ℕ) → are_known low uids known ≡ true → (high : ℕ) × Rises low high uids
known_rise low [] known e = (low, omega arith)
known_rise low (uid ∷ uids) known e =
    let first = and_parts (nat_le low uid) (is_among uid known && are_known (uid + 1) uids known) e in
    let rest = known_rise (uid + 1) uids known (and_parts (is_among uid known) (are_known (uid + 1) uids known) first.1).1 in
    (rest.0, (leb-true low uid first.0, rest.1))

pub known_rising : (uids known : List ℕ) → are_known 0 uids known ≡ true → AreRising uids
known_rising uids known e = let h = known_rise 0 uids known e in (0, h.0, h.1)

-- ---- what stays but for own changes

pub record StaysShared (s t : Summary) : Type 0 where
  pub messages : t.messages ≡ s.messages
  pub gone : t.gone ≡ s.gone
  pub next : t.next ≡ s.next
  pub shared : t.shared ≡ s.shared

stays : (s : Summary) → StaysShared s s
stays s = record { messages = refl; gone = refl; next = refl; shared = refl }

seen_stays : (user : List ℕ) (uid : ℕ) (seen : Bool) (s : Summary) → StaysShared s (with_seen user uid seen s)
seen_stays user uid seen s = record { messages = refl; gone = refl; next = refl; shared = refl }

-- by each case of a change that is made only if there is a message and an own event
pub own_by : (P : Summary → Type 0) (user : List ℕ) (uid : ℕ) (seen : Bool) (s : Summary)
    → (length (own_at s.own user).befores < max_events → is_there uid s ≡ true → P (with_seen user uid seen s)) → P s → P (with_own user uid seen s)
own_by P user uid seen s made left = by (nat_lt (length (own_at s.own user).befores) max_events) refl
  where
    there : (b : Bool) → is_there uid s ≡ b → length (own_at s.own user).befores < max_events → P (cond b (with_seen user uid seen s) s)
    there true t lt = made lt t
    there false f lt = left

    by : (b : Bool) → nat_lt (length (own_at s.own user).befores) max_events ≡ b → P (cond b (if_there uid (with_seen user uid seen s) s) s)
    by true t = there (is_there uid s) refl (ltb-true (length (own_at s.own user).befores) max_events t)
    by false f = left

pub own_stays : (user : List ℕ) (uid : ℕ) (seen : Bool) (s : Summary) → StaysShared s (with_own user uid seen s)
own_stays user uid seen s = own_by (StaysShared s) user uid seen s (λ lt t. seen_stays user uid seen s) (stays s)

pub seen_by : (P : Summary → Type 0) (user : List ℕ) (uid : ℕ) (o : Option Bool) (s : Summary)
    → ((seen : Bool) → P (with_own user uid seen s)) → P s → P (with_new_seen user uid o s)
seen_by P user uid None s made left = left
seen_by P user uid (Some seen) s made left = made seen

pub new_by : (P : Summary → Type 0) (user : List ℕ) (m : NewMessage) (s : Summary)
    → P (with_own user s.next true (with_message m s)) → P (with_message m s) → P (with_new user m s)
new_by P user m s made left = by m.seen
  where
    by : (b : Bool) → P (cond b (with_own user s.next true (with_message m s)) (with_message m s))
    by true = made
    by false = left

pub flags_by : (P : Summary → Type 0) (uid : ℕ) (o : Option SharedFlags) (s : Summary)
    → ((flags : SharedFlags) → o ≡ Some flags → P (with_flags uid flags s)) → P s → P (with_new_flags uid o s)
flags_by P uid None s made left = left
flags_by P uid (Some flags) s made left = by (is_there uid s)
  where
    by : (b : Bool) → P (cond b (with_flags uid flags s) s)
    by true = made flags refl
    by false = left

-- ---- what is counted

pub record IsAdded (s t : Summary) : Type 0 where
  pub next : t.next ≡ s.next + 1
  pub shared : t.shared ≡ s.shared + 1
  pub length : length t.messages ≡ length s.messages + 1

pub new_added : (user : List ℕ) (m : NewMessage) (s : Summary) → IsAdded s (with_new user m s)
new_added user m s =
    new_by (IsAdded s) user m s
    (own_by (IsAdded s) user s.next true (with_message m s) (λ lt t. record { next = refl; shared = refl; length = length_push s.messages _ }) plain) plain
  where
    plain : IsAdded s (with_message m s)
    plain = record { next = refl; shared = refl; length = length_push s.messages _ }

pub record AreAdded (n : ℕ) (s t : Summary) : Type 0 where
  pub next : t.next ≡ s.next + n
  pub shared : t.shared ≡ s.shared + n
  pub length : length t.messages ≡ length s.messages + n

pub all_added : (user : List ℕ) (added : List NewMessage) (s : Summary) → AreAdded (length added) s (with_added user added s)
all_added user [] s = record { next = omega arith; shared = omega arith; length = omega arith }
all_added user (m ∷ added) s =
    let one = new_added user m s in
    let rest = all_added user added (with_new user m s) in
    record {
      next = omega (arith, one.next, rest.next);
      shared = omega (arith, one.shared, rest.shared);
      length = omega (arith, one.length, rest.length);
    }

-- shared events of marks: none is made for a UID that no message has
pub record AreFewer (n : ℕ) (s t : Summary) : Type 0 where
  pub next : t.next ≡ s.next
  pub shared : t.shared ≤ s.shared + n
  pub less : s.shared ≤ t.shared

flags_fewer : (uid : ℕ) (o : Option SharedFlags) (s : Summary) → AreFewer (one_if (is_some o)) s (with_new_flags uid o s)
flags_fewer uid None s = record { next = refl; shared = omega arith; less = omega arith }
flags_fewer uid (Some flags) s = flags_by (AreFewer 1 s) uid (Some flags) s
    (λ f e. record { next = refl; shared = omega arith; less = omega arith }) (record { next = refl; shared = omega arith; less = omega arith })

pub new_seen_stays : (user : List ℕ) (uid : ℕ) (o : Option Bool) (s : Summary) → StaysShared s (with_new_seen user uid o s)
new_seen_stays user uid o s = seen_by (StaysShared s) user uid o s (λ seen. own_stays user uid seen s) (stays s)

pub mark_fewer : (user : List ℕ) (k : FlagUpdate) (s : Summary) → AreFewer (one_if (is_some k.flags)) s (with_mark user k s)
mark_fewer user k s =
    let one = flags_fewer k.uid k.flags s in
    let two = new_seen_stays user k.uid k.seen (with_new_flags k.uid k.flags s) in
    record { next = two.next ∙ one.next; shared = omega (arith, one.shared, two.shared); less = omega (arith, one.less, two.shared) }

pub flags_counted : (k : FlagUpdate) (marks : List FlagUpdate) → flag_count (k ∷ marks) ≡ one_if (is_some k.flags) + flag_count marks
flags_counted k marks = refl

pub marks_fewer : (user : List ℕ) (marks : List FlagUpdate) (s : Summary) → AreFewer (flag_count marks) s (with_marks user marks s)
marks_fewer user [] s = record { next = refl; shared = omega arith; less = omega arith }
marks_fewer user (k ∷ marks) s =
    let one = mark_fewer user k s in
    let rest = marks_fewer user marks (with_mark user k s) in
    record {
      next = rest.next ∙ one.next;
      shared = omega (arith, one.shared, rest.shared, flags_counted k marks);
      less = omega (arith, one.less, rest.less);
    }

-- ---- keywords

pub few_keywords : (f : SharedFlags) → not (has_too_many f) ≡ true → HasFewKeywords f
few_keywords f e = by (has_too_many f) refl e
  where
    by : (b : Bool) → has_too_many f ≡ b → not b ≡ true → HasFewKeywords f
    by true t e = absurd (cc e)
    by false t e = let le = ltb-false 32 (length f.keywords) t in omega (arith, le)

-- ---- UIDs that are left

pub uids_left : (count next : ℕ) → has_uids count next ≡ true → 0 < count → next + count ≤ end_uid
uids_left count next e lt = by (eqb count 0) refl e
  where
    by : (b : Bool) → eqb count 0 ≡ b → b || nat_le (next + count) end_uid ≡ true → next + count ≤ end_uid
    by true none e = let is = eqb-true count 0 none in absurd (omega (arith, is, lt))
    by false some e = leb-true (next + count) end_uid e
