-- Sums over the messages of a mailbox.
use Rattle.std.proofs.Common.{◌≡◌, ℕ, zero, suc, ◌+◌, ◌-◌, ◌<◌, ◌≤◌, eqb, not, ◌||◌, Bool, true, false, cond, List, [], ◌∷◌, ◌++◌, length, map, drop, get_or, set, Some, None, refl, sym, ap, subst, ◌∙◌, arith}
use Rattle.std.specs.Prelude.{min}
use Rattle.std.specs.List.{sum_by}
use Rattle.std.proofs.lemmas.Bool.{eqb-true}
use Rattle.std.proofs.lemmas.List.{drop_all, drop_more}
use Rattle.std.proofs.lemmas.List.Sums.{sum_by-cons, sum_by-set, sum_by_push, count_by-le-length, get_or-le-sum_by}
use Rattle.imap_mailbox.specs.declared.flags.SharedFlags.{SharedFlags}
use Rattle.imap_mailbox.specs.declared.message.Message.{Message}
use Rattle.imap_mailbox.specs.declared.totals.Totals.{Totals}
use Rattle.imap_mailbox.specs.Expunging.{without_all}
use Rattle.imap_mailbox.specs.Lent.{place_in}
use Rattle.imap_mailbox.specs.Rows.{is_among}
use Rattle.imap_mailbox.specs.Status.{deleted_in, size_in, max_size}
use Rattle.imap_mailbox.specs.Summary.{Rises, uids_in, flags_in, row_in, without}
use Rattle.imap_mailbox.specs.Own.{Own}
use Rattle.imap_mailbox.specs.Totals.{AreTotals, AreOfGone, IsWith, IsWithAny, deleted_of, size_of}
use Rattle.imap_mailbox.proofs.Accounts.{turned}
use Rattle.imap_mailbox.proofs.ExpungedAll.{absent_stay, all_stay, filter_twice}
use Rattle.imap_mailbox.proofs.Finding.{front_some, inside, among_nowhere, put, put_there, put_nowhere}
use Rattle.imap_mailbox.proofs.Passing.{among_above}
use Rattle.std.proofs.lemmas.List.{length-map}

-- ---- one message goes

module _ (f : Message → ℕ) where
  one_kept : (m : Message) (b : Bool) (messages : List Message) → sum_by f (cond b (m ∷ messages) messages) ≡ cond b (f m) 0 + sum_by f messages
  one_kept m true messages = sum_by-cons f m messages
  one_kept m false messages = omega arith

  pub one_gone : (uid low high : ℕ) (uids : List ℕ) (messages : List Message) (i : ℕ) (d : Message) → is_among uid uids ≡ false → Rises low high (uids_in messages) → place_in uid (uids_in messages) ≡ Some i
      → f (get_or messages i d) + sum_by f (without_all (uid ∷ uids) messages) ≡ sum_by f (without_all uids messages)
  one_gone uid low high uids [] i d apart h e = absurd (cc e)
  one_gone uid low high uids (m ∷ messages) i d apart h e =
      front_some (eqb m.uid uid) (place_in uid (uids_in messages)) i (f (get_or (m ∷ messages) i d) + sum_by f (without_all (uid ∷ uids) (m ∷ messages)) ≡ sum_by f (without_all uids (m ∷ messages))) e
      (λ t z.
      let is = eqb-true m.uid uid t in
      let here : f (get_or (m ∷ messages) i d) ≡ f m = ap (λ k. f (get_or (m ∷ messages) k d)) z in
      let goes : sum_by f (without_all (uid ∷ uids) (m ∷ messages)) ≡ sum_by f (without_all (uid ∷ uids) messages) =
      ap (λ b. sum_by f (cond (not (b || is_among m.uid uids)) (m ∷ without_all (uid ∷ uids) messages) (without_all (uid ∷ uids) messages))) (turned uid m.uid ∙ t) in
      let other : is_among m.uid uids ≡ false = ap (λ u. is_among u uids) is ∙ apart in
      let stays : sum_by f (without_all uids (m ∷ messages)) ≡ f m + sum_by f (without_all uids messages) =
      ap (λ b. sum_by f (cond (not b) (m ∷ without_all uids messages) (without_all uids messages))) other ∙ sum_by-cons f m (without_all uids messages) in
      let none : is_among uid (uids_in messages) ≡ false = among_above uid (m.uid + 1) high (uids_in messages) (omega (arith, is)) h.1 in
      let rest : sum_by f (without_all (uid ∷ uids) messages) ≡ sum_by f (without_all uids messages) = ap (sum_by f) (absent_stay uid uids messages none) in
      omega (arith, here, goes, stays, rest))
      (λ j t at z.
      let here : f (get_or (m ∷ messages) i d) ≡ f (get_or messages j d) = ap (λ k. f (get_or (m ∷ messages) k d)) z in
      let rest = one_gone uid (m.uid + 1) high uids messages j d apart h.1 at in
      let goes : sum_by f (without_all (uid ∷ uids) (m ∷ messages)) ≡ cond (not (is_among m.uid uids)) (f m) 0 + sum_by f (without_all (uid ∷ uids) messages) =
      ap (λ b. sum_by f (cond (not (b || is_among m.uid uids)) (m ∷ without_all (uid ∷ uids) messages) (without_all (uid ∷ uids) messages))) (turned uid m.uid ∙ t)
      ∙ one_kept m (not (is_among m.uid uids)) (without_all (uid ∷ uids) messages) in
      let stays : sum_by f (without_all uids (m ∷ messages)) ≡ cond (not (is_among m.uid uids)) (f m) 0 + sum_by f (without_all uids messages) =
      one_kept m (not (is_among m.uid uids)) (without_all uids messages) in
      omega (arith, here, rest, goes, stays))

abbrev is_deleted : Message → ℕ
is_deleted m = cond m.flags.deleted 1 0

abbrev octets_len : Message → ℕ
octets_len m = length m.octets

-- the message with the UID was added
pub with_found : (uid low high : ℕ) (messages : List Message) (i len : ℕ) (m : Message) (old new : Totals) → Rises low high (uids_in messages) → place_in uid (uids_in messages) ≡ Some i
    → m ≡ get_or messages i m → len ≡ length m.octets → IsWith m.flags.deleted len old new → IsWithAny uid messages old new
with_found uid low high messages i len m old new h at is count added = record {
  len = length m.octets;
  size = let same = added.size in omega (arith, same, count);
  octets = λ uids last rises.
      let there : length (get_or messages i m).octets ≡ length m.octets = ap (λ (m : Message). length m.octets) (sym is) in
      let one = one_gone octets_len uid low high uids messages i m (among_above uid (uid + 1) last uids (omega arith) rises) h at in
      omega (arith, there, one);
  deleted = λ uids last rises.
      let there : is_deleted (get_or messages i m) ≡ is_deleted m = ap {B = ℕ} is_deleted (sym is) in
      let one = one_gone is_deleted uid low high uids messages i m (among_above uid (uid + 1) last uids (omega arith) rises) h at in
      let more : new.deleted ≡ old.deleted + is_deleted m = added.deleted in
      omega (arith, there, one, more);
  most = let more : new.deleted ≡ old.deleted + is_deleted m = added.deleted in omega (arith, more, small m.flags.deleted);
}
  where
    small : (b : Bool) → cond b 1 0 ≤ 1
    small true = omega arith
    small false = omega arith

-- no message has the UID
pub with_none : (uid : ℕ) (messages : List Message) (t : Totals) → place_in uid (uids_in messages) ≡ None → IsWithAny uid messages t t
with_none uid messages t e = record {
  len = 0;
  size = omega arith;
  octets = λ uids last rises. let same : size_of (without_all (uid ∷ uids) messages) ≡ size_of (without_all uids messages) = ap size_of (absent_stay uid uids messages (among_nowhere uid (uids_in messages) e)) in omega (arith, same);
  deleted = λ uids last rises. let same : deleted_of (without_all (uid ∷ uids) messages) ≡ deleted_of (without_all uids messages) = ap deleted_of (absent_stay uid uids messages (among_nowhere uid (uids_in messages) e)) in omega (arith, same);
  most = omega arith;
}

-- ---- a walk along the UIDs

-- `left` are the messages that stay, and `later` those without the UIDs that are still to come
pub record AreSoFar (left later : List Message) (t : Totals) : Type 0 where
  pub deleted : t.deleted + deleted_of left ≡ deleted_of later
  pub size : min max_size (t.size + size_of left) ≡ min max_size (size_of later)

rising_after : (low high : ℕ) (us : List ℕ) (i d : ℕ) → Rises low high us → i < length us → Rises (get_or us i d + 1) high (drop (suc i) us)
rising_after low high [] i d h lt = absurd (omega arith)
rising_after low high (u ∷ us) zero d h lt = h.1
rising_after low high (u ∷ us) (suc i) d h lt = rising_after (u + 1) high us i d h.1 (omega arith)

pub one_further : (low high : ℕ) (uids : List ℕ) (messages left : List Message) (i : ℕ) (old new : Totals) → Rises low high uids → i < length uids
    → IsWithAny (get_or uids i 0) messages old new → AreSoFar left (without_all (drop i uids) messages) old → AreSoFar left (without_all (drop (i + 1) uids) messages) new
one_further low high uids messages left i old new h lt one before =
    let uid = get_or uids i 0 in
    let next : suc i ≡ i + 1 = omega arith in
    let rises = subst (λ k. Rises (uid + 1) high (drop k uids)) next (rising_after low high uids i 0 h lt) in
    let here : drop i uids ≡ uid ∷ drop (i + 1) uids = drop_more uids i 0 lt in
    let deleted : deleted_of (without_all (drop i uids) messages) ≡ deleted_of (without_all (uid ∷ drop (i + 1) uids) messages) = ap (λ us. deleted_of (without_all us messages)) here in
    let octets : size_of (without_all (drop i uids) messages) ≡ size_of (without_all (uid ∷ drop (i + 1) uids) messages) = ap (λ us. size_of (without_all us messages)) here in
    let one_deleted = one.deleted (drop (i + 1) uids) high rises in
    let one_size = one.octets (drop (i + 1) uids) high rises in
    let before_deleted = before.deleted in
    let before_size = before.size in
    let sum = one.size in record {
      deleted = omega (arith, deleted, one_deleted, before_deleted);
      size = omega (arith, octets, one_size, before_size, sum);
    }

pub so_far_none : (left messages : List Message) (t : Totals) → left ≡ messages → AreTotals [] t → AreSoFar left messages t
so_far_none left messages t is none =
    let zero_deleted : t.deleted ≡ 0 = none.deleted in
    let least : t.size ≡ min max_size 0 = none.size in
    let zero_size : t.size ≡ 0 = omega (arith, least) in
    let deleted = ap deleted_of is in
    let octets = ap size_of is in record { deleted = omega (arith, zero_deleted, deleted); size = omega (arith, zero_size, octets) }

pub all_further : (left : List Message) (uids : List ℕ) (messages : List Message) (i : ℕ) (t : Totals) → length uids ≤ i → AreSoFar left (without_all (drop i uids) messages) t → AreOfGone messages left t
all_further left uids messages i t le h =
    let none : without_all (drop i uids) messages ≡ messages = ap (λ us. without_all us messages) (drop_all i uids le) ∙ all_stay messages in
    let deleted = ap deleted_of none in
    let octets = ap size_of none in
    let before_deleted = h.deleted in
    let before_size = h.size in record { deleted = omega (arith, deleted, before_deleted); size = omega (arith, octets, before_size) }

-- ---- those that are left

-- the place of a UID is one of a message
pub within_messages : (uid : ℕ) (messages : List Message) (i : ℕ) → place_in uid (uids_in messages) ≡ Some i → i < length messages
within_messages uid messages i at = let lt = inside uid (uids_in messages) i at in omega (arith, lt, length-map messages (λ (m : Message). m.uid))

pub fewer_deleted : (all left : List Message) (t went : Totals) → AreTotals all t → AreOfGone all left went → went.deleted ≤ t.deleted
fewer_deleted all left t went whole gone = let a = whole.deleted in let b = gone.deleted in omega (arith, a, b)

pub smaller : (all left : List Message) (t went : Totals) → AreTotals all t → AreOfGone all left went → t.size < max_size → went.size ≤ t.size
smaller all left t went whole gone lt = let a = whole.size in let b = gone.size in omega (arith, a, b, lt)

pub left_totals : (all left : List Message) (t went new : Totals) → AreTotals all t → AreOfGone all left went → t.size < max_size → new.deleted ≡ t.deleted - went.deleted → new.size ≡ t.size - went.size
    → AreTotals left new
left_totals all left t went new whole gone lt deleted size =
    let a = whole.deleted in let b = gone.deleted in let c = whole.size in let d = gone.size in
    record { deleted = omega (arith, a, b, deleted); size = omega (arith, c, d, lt, size) }

pub left_anew : (all left : List Message) (t went new : Totals) → AreTotals all t → AreOfGone all left went → new.deleted ≡ t.deleted - went.deleted → new.size ≡ min max_size (size_of left)
    → AreTotals left new
left_anew all left t went new whole gone deleted size =
    let a = whole.deleted in let b = gone.deleted in
    record { deleted = omega (arith, a, b, deleted); size = size }

-- one UID alone
pub one_left : (uid : ℕ) (messages left : List Message) → left ≡ without uid messages → without_all (uid ∷ []) messages ≡ left
one_left uid messages left is = sym (filter_twice uid [] messages) ∙ all_stay (without uid messages) ∙ sym is

-- ---- other flags

same_octets : (uid : ℕ) (flags : SharedFlags) (p : ℕ) (messages : List Message) → size_of (map (flags_in uid flags p) messages) ≡ size_of messages
same_octets uid flags p [] = refl
same_octets uid flags p (m ∷ messages) =
    let rest = same_octets uid flags p messages in
    let left = sum_by-cons octets_len (flags_in uid flags p m) (map (flags_in uid flags p) messages) in
    let right = sum_by-cons octets_len m messages in
    omega (arith, rest, left, right, one (eqb m.uid uid))
  where
    one : (b : Bool) → length (cond b (put flags p m) m).octets ≡ length m.octets
    one true = refl
    one false = refl

module _ (uid low high : ℕ) (messages : List Message) (i : ℕ) (d : Message) (before now : Bool) (h : Rises low high (uids_in messages)) (at : place_in uid (uids_in messages) ≡ Some i) (is : before ≡ (get_or messages i d).flags.deleted) (t : Totals) (totals : AreTotals messages t) where
  within : i < length messages
  within = let lt = inside uid (uids_in messages) i at in omega (arith, lt, length-map messages (λ (m : Message). m.uid))

  there : is_deleted (get_or messages i d) ≡ cond before 1 0
  there = ap {B = ℕ} (λ b. cond b 1 0) (sym is)

  pub was_counted : cond before 1 0 ≤ t.deleted
  was_counted = let le = get_or-le-sum_by is_deleted messages i d within in let all : t.deleted ≡ sum_by is_deleted messages = totals.deleted in omega (arith, le, there, all)

  -- as it is after the change
  changed : (flags : SharedFlags) (p : ℕ) → flags.deleted ≡ now → deleted_of (map (flags_in uid flags p) messages) + cond before 1 0 ≡ t.deleted + cond now 1 0
  changed flags p same =
      let y = put flags p (get_or messages i d) in
      let moved : deleted_of (set messages i y) ≡ deleted_of (map (flags_in uid flags p) messages) = ap deleted_of (put_there uid flags p low high messages i d h at) in
      let sums : deleted_of (set messages i y) + is_deleted (get_or messages i d) ≡ deleted_of messages + is_deleted y = sum_by-set is_deleted messages i y d within in
      let all : t.deleted ≡ deleted_of messages = totals.deleted in
      let new : is_deleted y ≡ cond now 1 0 = ap {B = ℕ} (λ b. cond b 1 0) same in
      omega (arith, moved, sums, there, all, new)

  pub stays_within : (flags : SharedFlags) → flags.deleted ≡ now → t.deleted - cond before 1 0 + cond now 1 0 ≤ length messages
  stays_within flags same =
      let sum = changed flags 0 same in
      let few = count_by-le-length (λ (m : Message). m.flags.deleted) (map (flags_in uid flags 0) messages) in
      omega (arith, sum, few, was_counted, length-map messages (flags_in uid flags 0))

  pub moved_totals : (new : Totals) → new.deleted ≡ t.deleted - cond before 1 0 + cond now 1 0 → new.size ≡ t.size
      → (flags : SharedFlags) (p : ℕ) → flags.deleted ≡ now → AreTotals (map (flags_in uid flags p) messages) new
  moved_totals new deleted size flags p same =
      let sum = changed flags p same in
      let octets = totals.size in
      let alike = same_octets uid flags p messages in record {
        deleted = omega (arith, sum, deleted, was_counted);
        size = omega (arith, octets, size, alike);
      }

pub unmoved_totals : (uid : ℕ) (messages : List Message) (t : Totals) → place_in uid (uids_in messages) ≡ None → AreTotals messages t
    → (flags : SharedFlags) (p : ℕ) → AreTotals (map (flags_in uid flags p) messages) t
unmoved_totals uid messages t e totals flags p = subst (λ ms. AreTotals ms t) (sym (put_nowhere uid flags p messages e)) totals

-- ---- one message more

pub added_totals : (messages : List Message) (m : Message) (len : ℕ) (old new : Totals) → len ≡ length m.octets → IsWith m.flags.deleted len old new → AreTotals messages old → AreTotals (messages ++ m ∷ []) new
added_totals messages m len old new count added totals =
    let deleted : deleted_of (messages ++ m ∷ []) ≡ deleted_of messages + is_deleted m = sum_by_push is_deleted messages m in
    let octets : size_of (messages ++ m ∷ []) ≡ size_of messages + length m.octets = sum_by_push octets_len messages m in
    let more : new.deleted ≡ old.deleted + is_deleted m = added.deleted in
    let sum = added.size in
    let before_deleted = totals.deleted in
    let before_size = totals.size in record {
      deleted = omega (arith, deleted, more, before_deleted);
      size = omega (arith, octets, sum, before_size, count);
    }

pub few_deleted : (messages : List Message) (t : Totals) → AreTotals messages t → t.deleted ≤ length messages
few_deleted messages t totals = let few = count_by-le-length (λ (m : Message). m.flags.deleted) messages in let all = totals.deleted in omega (arith, few, all)

-- ---- as a user has the messages

pub deleted_shown : (own : Own) (messages : List Message) → deleted_of messages ≡ deleted_in (map (row_in own) messages)
deleted_shown own [] = refl
deleted_shown own (m ∷ messages) =
    let rest = deleted_shown own messages in
    sum_by-cons is_deleted m messages ∙ ap (λ n. is_deleted m + n) rest ∙ sym (sum_by-cons _ (row_in own m) (map (row_in own) messages))

pub size_shown : (own : Own) (messages : List Message) → size_of messages ≡ size_in (map (row_in own) messages)
size_shown own [] = refl
size_shown own (m ∷ messages) =
    let rest = size_shown own messages in
    sum_by-cons octets_len m messages ∙ ap (λ n. length m.octets + n) rest ∙ sym (sum_by-cons _ (row_in own m) (map (row_in own) messages))
