-- The rows of each user, joined from what is kept for all users and the own changes of the user.
use Rattle.std.proofs.Common.{◌≡◌, ℕ, ◌+◌, ◌<◌, ◌≤◌, max, eqb, not, Bool, true, false, cond, List, [], ◌∷◌, ◌++◌, length, map, filter, Option, Some, None, option_map, refl, sym, ap, ◌∙◌, arith}
use Rattle.std.proofs.lemmas.List.{map-append}
use Rattle.std.specs.FinMap.{get, get-empty}
use Rattle.std.specs.Ordering.{nat_cmp}
use Rattle.imap_modseq.specs.Merge.{AreInOrder}
use Rattle.imap_modseq.specs.Numbers.{shared_number, own_number}
use Rattle.imap_mailbox.specs.declared.flags.SharedFlags.{SharedFlags}
use Rattle.imap_modseq.proofs.Order.{before_all, before_most, before_push, order_at}
use Rattle.imap_mailbox.specs.declared.kept_change.KeptChange.{KeptChange}
use Rattle.imap_mailbox.specs.declared.own.SeenChange.{SeenChange}
use Rattle.imap_mailbox.specs.declared.message.Message.{Message}
use Rattle.imap_mailbox.specs.Rows.{Arrival, Added, FlagsSet, Expunged, Shared, SeenSet, Row, row_of, at_uid, row_step, gone_step}
use Rattle.imap_mailbox.specs.Latest.{AreLast}
use Rattle.imap_mailbox.specs.Own.{Own, no_own, next_change, with_change}
use Rattle.imap_mailbox.specs.declared.message.GoneMessage.{GoneMessage}
use Rattle.imap_mailbox.specs.Summary.{message_of, flags_in, without, shown, latest, latest_number, latest_seen, number_at, row_in, gone_in, ArePlacesBelow, AreOfGiven, IsLast}
use Rattle.imap_mailbox.proofs.Found.{got}
use Rattle.imap_mailbox.proofs.Rising.{AreGoneBelow}

-- ---- the last own change of a message

shown_cond : (b : Bool) (k : KeptChange) (o : Option KeptChange) → option_map shown (cond b (Some k) o) ≡ cond b (Some (shown k)) (option_map shown o)
shown_cond true k o = refl
shown_cond false k o = refl

pub latest-after : (uid : ℕ) (own : Own) (s : SeenChange) → latest uid (with_change s own) ≡ cond (eqb uid s.uid) (Some (own_number s.before (length own.befores), s.seen)) (latest uid own)
latest-after uid own s = ap (option_map shown) (got own.latest s.uid (next_change s own) uid) ∙ shown_cond (eqb uid s.uid) (next_change s own) (get own.latest uid)

-- its number is that of one of the changes
pub last_most : (high uid : ℕ) (own : Own) (k : KeptChange) → AreInOrder 0 high own.befores → IsLast own.befores uid k → own_number k.before k.place < 2 + (high + length own.befores)
last_most high uid own k order last =
    let at = order_at 0 high own.befores k.place 0 order last.place in
    let before = last.before in
    let place = last.place in
    omega (arith, at.1, before, place)

pub latest_most : (high uid : ℕ) (own : Own) → AreInOrder 0 high own.befores → AreLast own → latest_number (latest uid own) < 2 + (high + length own.befores)
latest_most high uid own order last = by (get own.latest uid) refl
  where
    by : (o : Option KeptChange) → get own.latest uid ≡ o → latest_number (option_map shown o) < 2 + (high + length own.befores)
    by None e = omega arith
    by (Some k) e = last_most high uid own k order (last uid k e)

-- without own changes there is none
pub none_latest : (uid : ℕ) → latest uid no_own ≡ None
none_latest uid = ap (option_map shown) (get-empty nat_cmp uid)

pub plain_shown : (m : Message) (n : ℕ) → n ≡ 2 + (m.place + 0)
    → record { uid = m.uid; date = m.date; octets = m.octets; flags = m.flags; seen = false; number = n } ≡ row_in no_own m
plain_shown m n is = λ i. record { uid = m.uid; date = m.date; octets = m.octets; flags = m.flags; seen = latest_seen (sym (none_latest m.uid) i); number = same i }
  where
    same : n ≡ max (number_at no_own m.place) (latest_number (latest m.uid no_own))
    same = let none : latest_number (latest m.uid no_own) ≡ 0 = ap latest_number (none_latest m.uid) in omega (arith, is, none)

-- a message that came after all own changes has none
pub latest-none : (uid next : ℕ) (own : Own) → AreOfGiven next own → next ≤ uid → latest uid own ≡ None
latest-none uid next own h le = by (get own.latest uid) refl
  where
    by : (o : Option KeptChange) → get own.latest uid ≡ o → option_map shown o ≡ None
    by None e = refl
    by (Some k) e = let lt : uid < next = (h uid k e).0.1 in absurd (omega (arith, lt, le))

-- ---- one step

module _ (own : Own) (n : ℕ) (order : AreInOrder 0 n own.befores) (last : AreLast own) where
  -- the number that comes next
  abbrev next : ℕ
  next = 2 + (n + length own.befores)

  number_last : shared_number own.befores n ≡ next
  number_last = ap (λ k. 2 + (n + k)) (before_all 0 n own.befores n order (omega arith))

  newest : (uid : ℕ) → max (shared_number own.befores n) (latest_number (latest uid own)) ≡ next
  newest uid = omega (arith, number_last, latest_most n uid own order last)

  flag_one : (uid : ℕ) (flags : SharedFlags) (c : Message) → at_uid next uid (λ r. record r { flags = flags }) (row_in own c) ≡ row_in own (flags_in uid flags n c)
  flag_one uid flags c = by (eqb c.uid uid)
    where
      by : (b : Bool) → cond b (record (row_in own c) { flags = flags; number = next }) (row_in own c) ≡ row_in own (cond b (record { uid = c.uid; date = c.date; octets = c.octets; flags = flags; place = n }) c)
      by true = λ i. record { uid = c.uid; date = c.date; octets = c.octets; flags = flags; seen = latest_seen (latest c.uid own); number = sym (newest c.uid) i }
      by false = refl

  pub flag_all : (uid : ℕ) (flags : SharedFlags) (messages : List Message) → row_step next (Shared (FlagsSet uid flags)) (map (row_in own) messages) ≡ map (row_in own) (map (flags_in uid flags n) messages)
  flag_all uid flags [] = refl
  flag_all uid flags (c ∷ messages) = λ i. flag_one uid flags c i ∷ flag_all uid flags messages i

  pub gone_all : (uid : ℕ) (messages : List Message) → row_step next (Shared (Expunged uid)) (map (row_in own) messages) ≡ map (row_in own) (without uid messages)
  gone_all uid [] = refl
  gone_all uid (c ∷ messages) = by (not (eqb c.uid uid)) (gone_all uid messages)
    where
      by : (b : Bool) → filter (λ r. not (eqb r.uid uid)) (map (row_in own) messages) ≡ map (row_in own) (without uid messages)
          → cond b (row_in own c ∷ filter (λ r. not (eqb r.uid uid)) (map (row_in own) messages)) (filter (λ r. not (eqb r.uid uid)) (map (row_in own) messages)) ≡ map (row_in own) (cond b (c ∷ without uid messages) (without uid messages))
      by true rest = ap (λ l. row_in own c ∷ l) rest
      by false rest = rest

  pub added_all : (low : ℕ) (m : Arrival) (messages : List Message) → AreOfGiven low own → low ≤ m.uid → row_step next (Shared (Added m)) (map (row_in own) messages) ≡ map (row_in own) (messages ++ message_of n m ∷ [])
  added_all low m messages known le = ap (λ r. map (row_in own) messages ++ r ∷ []) one ∙ sym (map-append (row_in own) messages (message_of n m ∷ []))
    where
      none : latest m.uid own ≡ None
      none = latest-none m.uid low own known le

      one : row_of next m ≡ row_in own (message_of n m)
      one = λ i. record { uid = m.uid; date = m.date; octets = m.octets; flags = m.flags; seen = latest_seen (sym none i); number = sym (newest m.uid) i }

  pub taken_all : (uid : ℕ) (gone : List GoneMessage) → gone_step next (Shared (Expunged uid)) (map (gone_in own) gone) ≡ map (gone_in own) (gone ++ record { uid = uid; place = n } ∷ [])
  taken_all uid gone = ap (λ k. map (gone_in own) gone ++ (uid, k) ∷ []) (sym number_last) ∙ sym (map-append (gone_in own) gone (record { uid = uid; place = n } ∷ []))

  -- an own change
  abbrev change : ℕ → Bool → SeenChange
  change uid seen = record { before = n; uid = uid; seen = seen }

  -- numbers once given stay
  stays : (uid p : ℕ) (seen : Bool) → p < n → number_at (with_change (change uid seen) own) p ≡ number_at own p
  stays uid p seen lt = ap (λ k. 2 + (p + k)) (before_push own.befores n p lt)

  abbrev row_with : Message → Option (ℕ × Bool) → Row
  row_with c found = record { uid = c.uid; date = c.date; octets = c.octets; flags = c.flags; seen = latest_seen found; number = max (number_at own c.place) (latest_number found) }

  mark_one : (uid : ℕ) (seen : Bool) (c : Message) → c.place < n → at_uid next uid (λ r. record r { seen = seen }) (row_in own c) ≡ row_in (with_change (change uid seen) own) c
  mark_one uid seen c lt = by (eqb c.uid uid) ∙ sym whole
    where
      whole : row_in (with_change (change uid seen) own) c ≡ row_with c (cond (eqb c.uid uid) (Some (next, seen)) (latest c.uid own))
      whole = λ i. record {
        uid = c.uid;
        date = c.date;
        octets = c.octets;
        flags = c.flags;
        seen = latest_seen (latest-after c.uid own (change uid seen) i);
        number = max (stays uid c.place seen lt i) (latest_number (latest-after c.uid own (change uid seen) i));
      }

      by : (b : Bool) → cond b (record (row_in own c) { seen = seen; number = next }) (row_in own c) ≡ row_with c (cond b (Some (next, seen)) (latest c.uid own))
      by true = λ i. record { uid = c.uid; date = c.date; octets = c.octets; flags = c.flags; seen = seen; number = most i }
        where
          most : next ≡ max (shared_number own.befores c.place) next
          most = omega (arith, before_most own.befores c.place)
      by false = refl

  pub mark_all : (uid : ℕ) (seen : Bool) (messages : List Message) → ArePlacesBelow n messages → row_step next (SeenSet uid seen) (map (row_in own) messages) ≡ map (row_in (with_change (change uid seen) own)) messages
  mark_all uid seen [] h = refl
  mark_all uid seen (c ∷ messages) h = λ i. mark_one uid seen c h.0 i ∷ mark_all uid seen messages h.1 i

  pub taken_stay : (uid : ℕ) (seen : Bool) (gone : List GoneMessage) → AreGoneBelow n gone → map (gone_in own) gone ≡ map (gone_in (with_change (change uid seen) own)) gone
  taken_stay uid seen [] h = refl
  taken_stay uid seen (t ∷ gone) h = λ i. (t.uid, sym (stays uid t.place seen h.0) i) ∷ taken_stay uid seen gone h.1 i
