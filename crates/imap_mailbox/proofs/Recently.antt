-- What is noted of the last shared events.
use Rattle.std.proofs.Common.{◌≡◌, ℕ, zero, suc, ◌+◌, ◌-◌, ◌≤◌, ◌<◌, Bool, true, false, cond, eqb, ◌||◌, List, [], ◌∷◌, ◌++◌, length, take, drop, map, filter, refl, sym, ap, subst, ◌∙◌, arith}
use Rattle.std.proofs.lemmas.Bool.{eq-eqb, eqb-true}
use Rattle.std.proofs.lemmas.List.{drop-append-le, length-append, length-drop, take-append-drop}
use Rattle.imap_mailbox.specs.declared.flags.SharedFlags.{SharedFlags}
use Rattle.imap_mailbox.specs.declared.message.Message.{Message}
use Rattle.imap_mailbox.specs.declared.message.GoneMessage.{GoneMessage}
use Rattle.imap_mailbox.specs.Expunging.{gone_at, uids_there}
use Rattle.imap_mailbox.specs.Recent.{Recent, AreNoted, AreRecent, IsNoted, IsNotedAt, IsRecent, end_of}
use Rattle.imap_mailbox.specs.Rows.{is_among}
use Rattle.imap_mailbox.specs.Summary.{ArePlacesBelow, flags_in, uids_in}

pub drop_drop : {A : Type 0} (m n : ℕ) (xs : List A) → drop m (drop n xs) ≡ drop (n + m) xs
drop_drop m zero xs = let e : m ≡ zero + m = omega (arith) in ap (λ n. drop n xs) e
drop_drop {A} m (suc n) [] = drop_nothing m ∙ sym (drop_nothing (suc n + m))
  where
    drop_nothing : (k : ℕ) → drop {A = A} k [] ≡ []
    drop_nothing zero = refl
    drop_nothing (suc k) = refl
drop_drop m (suc n) (x ∷ xs) = let e : suc (n + m) ≡ suc n + m = omega (arith) in drop_drop m n xs ∙ ap (λ k. drop k (x ∷ xs)) e

drop_end : {A : Type 0} (xs : List A) (x : A) → drop (length xs) (xs ++ x ∷ []) ≡ x ∷ []
drop_end [] x = refl
drop_end (y ∷ xs) x = drop_end xs x

-- ---- one event more

module _ (old new : Recent) (uid : ℕ) (noted : IsNoted uid old new) where
  abbrev all : List ℕ
  all = old.uids ++ uid ∷ []

  pub one_more : end_of new ≡ end_of old + 1
  one_more =
      let len : length new.uids ≡ length all - noted.forgotten = ap length noted.uids ∙ length-drop noted.forgotten all in
      let longer : length all ≡ length old.uids + 1 = length-append old.uids (uid ∷ []) in
      omega (arith, len, longer, noted.first, noted.few)

  -- what is at a place that isn't forgotten
  at_place : (place : ℕ) → new.first ≤ place → drop (place - new.first) new.uids ≡ drop (place - old.first) all
  at_place place within =
      ap (drop (place - new.first)) noted.uids ∙ drop_drop (place - new.first) noted.forgotten all
      ∙ ap (λ n. drop n all) (omega (arith, within, noted.first))

  pub kept_event : (place other : ℕ) → IsNotedAt old place other → IsNotedAt new place other
  kept_event place other recent = record {
    before = omega (arith, recent.before, one_more);
    noted = λ within.
        let there = recent.noted (omega (arith, within, noted.first)) in (
          there.0 ++ uid ∷ [],
          at_place place within ∙ drop-append-le (place - old.first) old.uids (uid ∷ []) (omega (arith, recent.before, within, noted.first)) ∙ ap (λ l. l ++ uid ∷ []) there.1,
        );
  }

  pub new_event : (place other : ℕ) → other ≡ uid → place ≡ end_of old → IsNotedAt new place other
  new_event place other named here = record {
    before = omega (arith, one_more, here);
    noted = λ within. (
      [],
      at_place place within ∙ ap (λ n. drop n all) (omega (arith, here)) ∙ drop_end old.uids uid ∙ ap (λ u. u ∷ []) (sym named),
    );
  }

  pub kept_message : (m : Message) → IsRecent old m → IsRecent new m
  kept_message m recent = kept_event m.place m.uid recent

  pub new_message : (m : Message) → m.uid ≡ uid → m.place ≡ end_of old → IsRecent new m
  new_message m named here = new_event m.place m.uid named here

  set_message : (flags : SharedFlags) (m : Message) → IsRecent old m → IsRecent new (flags_in uid flags (end_of old) m)
  set_message flags m recent = by (eqb m.uid uid) refl
    where
      by : (b : Bool) → eqb m.uid uid ≡ b → IsRecent new (cond b (record { uid = m.uid; date = m.date; octets = m.octets; flags = flags; place = end_of old }) m)
      by true e = new_message (record { uid = m.uid; date = m.date; octets = m.octets; flags = flags; place = end_of old }) (eqb-true m.uid uid e) refl
      by false e = kept_message m recent

  all_set : (flags : SharedFlags) (messages : List Message) → AreRecent old messages → AreRecent new (map (flags_in uid flags (end_of old)) messages)
  all_set flags [] h = tt
  all_set flags (m ∷ messages) h = (set_message flags m h.0, all_set flags messages h.1)

  all_added : (m : Message) (messages : List Message) → IsRecent new m → AreRecent old messages → AreRecent new (messages ++ m ∷ [])
  all_added m [] is h = (is, tt)
  all_added m (n ∷ messages) is h = (kept_message n h.0, all_added m messages is h.1)

  -- the event sets flags
  pub set_noted : (shared : ℕ) (flags : SharedFlags) (messages : List Message) → AreNoted shared messages old → AreNoted (shared + 1) (map (flags_in uid flags shared) messages) new
  set_noted shared flags messages were = record {
    ends = omega (arith, one_more, were.ends);
    recent = subst (λ place. AreRecent new (map (flags_in uid flags place) messages)) were.ends (all_set flags messages were.recent);
  }

  -- it adds a message
  pub added_noted : (shared : ℕ) (m : Message) (messages : List Message) → m.uid ≡ uid → m.place ≡ shared → AreNoted shared messages old → AreNoted (shared + 1) (messages ++ m ∷ []) new
  added_noted shared m messages named here were = record {
    ends = omega (arith, one_more, were.ends);
    recent = all_added m messages (new_message m named (here ∙ sym were.ends)) were.recent;
  }

-- ---- messages that go

all_left : (old new : Recent) (test : Message → Bool) (messages : List Message) → ((m : Message) → IsRecent old m → IsRecent new m) → AreRecent old messages → AreRecent new (filter test messages)
all_left old new test [] keeps h = tt
all_left old new test (m ∷ messages) keeps h = by (test m) (all_left old new test messages keeps h.1)
  where
    by : (b : Bool) → AreRecent new (filter test messages) → AreRecent new (cond b (m ∷ filter test messages) (filter test messages))
    by true rest = (keeps m h.0, rest)
    by false rest = rest

pub left_noted : (old new : Recent) (shared more : ℕ) (test : Message → Bool) (messages : List Message) → end_of new ≡ end_of old + more → ((m : Message) → IsRecent old m → IsRecent new m)
    → AreNoted shared messages old → AreNoted (shared + more) (filter test messages) new
left_noted old new shared more test messages ends keeps were = record {
  ends = omega (arith, ends, were.ends);
  recent = all_left old new test messages keeps were.recent;
}

-- ---- nothing is noted

nothing_recent : (shared : ℕ) (messages : List Message) → ArePlacesBelow shared messages → AreRecent (record { first = shared; uids = [] }) messages
nothing_recent shared [] below = tt
nothing_recent shared (m ∷ messages) below =
    let here : m.place < shared = below.0 in
    (record { before = omega (arith, here); noted = λ within. absurd (omega (arith, within, here)) }, nothing_recent shared messages below.1)

pub nothing_noted : (shared : ℕ) (messages : List Message) (r : Recent) → r ≡ record { first = shared; uids = [] } → ArePlacesBelow shared messages → AreNoted shared messages r
nothing_noted shared messages r is below =
    subst (AreNoted shared messages) (sym is) (record { ends = omega (arith); recent = nothing_recent shared messages below })

-- ---- how an event is noted: first some are forgotten, and then it is noted, or forgotten with the others

pub noted_after : (old mid new : Recent) (uid : ℕ) → old.first ≤ mid.first → mid.first ≤ end_of old → end_of mid ≡ end_of old → mid.uids ≡ drop (mid.first - old.first) old.uids
    → mid.first ≤ new.first → end_of new ≡ end_of mid + 1 → new.uids ≡ drop (new.first - mid.first) (mid.uids ++ uid ∷ []) → IsNoted uid old new
noted_after old mid new uid later within same left after one noted = record {
  forgotten = new.first - old.first;
  first = omega (arith, later, after);
  uids = noted ∙ ap (λ l. drop (new.first - mid.first) (l ++ uid ∷ [])) left
      ∙ ap (drop (new.first - mid.first)) (sym (drop-append-le (mid.first - old.first) old.uids (uid ∷ []) (omega (arith, later, within))))
      ∙ drop_drop (new.first - mid.first) (mid.first - old.first) (old.uids ++ uid ∷ [])
      ∙ ap (λ n. drop n (old.uids ++ uid ∷ [])) (omega (arith, later, after));
  few = omega (arith, same, one, later, after);
}

-- ---- what is found by it

among_after : (uid : ℕ) (before after : List ℕ) → is_among uid (before ++ uid ∷ after) ≡ true
among_after uid [] after = ap (λ b. b || is_among uid after) (eq-eqb uid uid refl)
among_after uid (u ∷ before) after = by (eqb u uid) (among_after uid before after)
  where
    by : (b : Bool) → is_among uid (before ++ uid ∷ after) ≡ true → (b || is_among uid (before ++ uid ∷ after)) ≡ true
    by true e = refl
    by false e = e

pub event_since : (r : Recent) (place uid mark : ℕ) → IsNotedAt r place uid → r.first ≤ mark → mark ≤ place → is_among uid (drop (mark - r.first) r.uids) ≡ true
event_since r place uid mark recent first past =
    let there = recent.noted (omega (arith, first, past)) in
    let left = drop (mark - r.first) r.uids in
    let parts : left ≡ take (place - mark) left ++ uid ∷ there.0 =
    sym (take-append-drop (place - mark) left)
    ∙ ap (λ l. take (place - mark) left ++ l)
    (drop_drop (place - mark) (mark - r.first) r.uids ∙ ap (λ n. drop n r.uids) (omega (arith, first, past)) ∙ there.1) in
    ap (is_among uid) parts ∙ among_after uid (take (place - mark) left) there.0

pub noted_since : (r : Recent) (m : Message) (mark : ℕ) → IsRecent r m → r.first ≤ mark → mark ≤ m.place → is_among m.uid (drop (mark - r.first) r.uids) ≡ true
noted_since r m mark recent first past = event_since r m.place m.uid mark recent first past

-- ---- an event after those that are forgotten

pub none_noted : (r : Recent) (end place : ℕ) → r ≡ record { first = end; uids = [] } → place < end → (uid : ℕ) → IsNotedAt r place uid
none_noted r end place is lt uid = subst (λ r. IsNotedAt r place uid) (sym is) (record {
  before = omega (arith, lt);
  noted = λ within. absurd (omega (arith, within, lt));
})

-- ---- messages that are expunged at once

length_gone : (place : ℕ) (uids : List ℕ) → length (gone_at place uids) ≡ length uids
length_gone place [] = refl
length_gone place (uid ∷ uids) = ap suc (length_gone (place + 1) uids)

fewer : (test : ℕ → Bool) (uids : List ℕ) → length (filter test uids) ≤ length uids
fewer test [] = omega (arith)
fewer test (uid ∷ uids) = by (test uid) (fewer test uids)
  where
    by : (b : Bool) → length (filter test uids) ≤ length uids → length (cond b (uid ∷ filter test uids) (filter test uids)) ≤ suc (length uids)
    by true le = omega (arith, le)
    by false le = omega (arith, le)

drop_front : {A : Type 0} (xs ys : List A) → drop (length xs) (xs ++ ys) ≡ ys
drop_front [] ys = refl
drop_front (x ∷ xs) ys = drop_front xs ys

-- as many are gone as had one of the UIDs
pub gone_count : (old new gone : List GoneMessage) (place first : ℕ) (uids : List ℕ) (messages : List Message) → new ≡ old ++ gone_at place (uids_there uids messages) → first ≡ length old → gone ≡ drop first new
    → (length gone ≡ length (uids_there uids messages)) × (length gone ≤ length uids)
gone_count old new gone place first uids messages came at is =
    let same : gone ≡ gone_at place (uids_there uids messages) = is ∙ (λ i. drop (at i) (came i)) ∙ drop_front old (gone_at place (uids_there uids messages)) in
    let count : length gone ≡ length (uids_there uids messages) = ap length same ∙ length_gone place (uids_there uids messages) in
    (count, omega (arith, count, fewer (λ uid. is_among uid (uids_in messages)) uids))
