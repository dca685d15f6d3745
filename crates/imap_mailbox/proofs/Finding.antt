-- A message by its UID.
use Rattle.std.proofs.Common.{is_some, ◌≡◌, ◌≢◌, ℕ, zero, suc, ◌+◌, ◌<◌, ◌≤◌, eqb, ltb, Bool, true, false, cond, ◌||◌, List, [], ◌∷◌, length, map, get_or, set, Option, Some, None, option_map, unwrap_or, refl, sym, ap, ◌∙◌, arith, ⊎_elim}
use Rattle.std.proofs.lemmas.Bool.{ne_eqb, eq-eqb, ltb-true, ltb-false, eqb-true, cases_lt}
use Rattle.std.proofs.lemmas.List.{length-map}
use Rattle.std.specs.List.{prefix_len}
use Rattle.std.specs.List.Sorted.{IsNonDecreasingBy, IsPartitionPoint}
use Rattle.imap_mailbox.specs.declared.flags.SharedFlags.{SharedFlags}
use Rattle.imap_mailbox.specs.declared.message.Message.{Message}
use Rattle.imap_mailbox.specs.Rows.{is_among}
use Rattle.imap_mailbox.specs.Summary.{Rises, uids_in, flags_in, latest_seen}
use Rattle.imap_mailbox.specs.Calls.{message_at}
use Rattle.imap_mailbox.specs.Lent.{place_in}
use Rattle.imap_mailbox.proofs.Rising.{rises_end}

-- ---- numbers that rise

-- the number at a place is at least the low one
pub at_least : (low high : ℕ) (us : List ℕ) (i d : ℕ) → Rises low high us → i < length us → low ≤ get_or us i d
at_least low high [] i d h lt = absurd (omega arith)
at_least low high (u ∷ us) zero d h lt = h.0
at_least low high (u ∷ us) (suc i) d h lt =
    let rest = at_least (u + 1) high us i d h.1 (omega arith) in
    let here : low ≤ u = h.0 in
    omega (arith, rest)

pub up : (low high : ℕ) (us : List ℕ) (i j d : ℕ) → Rises low high us → i ≤ j → j < length us → get_or us i d ≤ get_or us j d
up low high [] i j d h le lt = absurd (omega arith)
up low high (u ∷ us) zero zero d h le lt = omega arith
up low high (u ∷ us) zero (suc j) d h le lt = let rest = at_least (u + 1) high us j d h.1 (omega arith) in omega (arith, rest)
up low high (u ∷ us) (suc i) zero d h le lt = absurd (omega arith)
up low high (u ∷ us) (suc i) (suc j) d h le lt = up (u + 1) high us i j d h.1 (omega arith) (omega arith)

pub below_end : (low high : ℕ) (us : List ℕ) (i d : ℕ) → Rises low high us → i < length us → get_or us i d < high
below_end low high [] i d h lt = absurd (omega arith)
below_end low high (u ∷ us) zero d h lt = let end = rises_end (u + 1) high us h.1 in omega arith
below_end low high (u ∷ us) (suc i) d h lt = below_end (u + 1) high us i d h.1 (omega arith)

-- ---- the place of a number

place_yes : (uid u : ℕ) (us : List ℕ) → u ≡ uid → place_in uid (u ∷ us) ≡ Some 0
place_yes uid u us e = ap (λ b. cond b (Some 0) (option_map (λ i. i + 1) (place_in uid us))) (eq-eqb u uid e)

place_no : (uid u : ℕ) (us : List ℕ) → eqb u uid ≡ false → place_in uid (u ∷ us) ≡ option_map (λ i. i + 1) (place_in uid us)
place_no uid u us e = ap (λ b. cond b (Some 0) (option_map (λ i. i + 1) (place_in uid us))) e

found_at : (uid : ℕ) (us : List ℕ) (i d : ℕ) → i < length us → ((k : ℕ) → k < i → get_or us k d < uid) → get_or us i d ≡ uid → place_in uid us ≡ Some i
found_at uid [] i d lt less e = absurd (omega arith)
found_at uid (u ∷ us) zero d lt less e = place_yes uid u us e
found_at uid (u ∷ us) (suc i) d lt less e =
    let here = less 0 (omega arith) in
    place_no uid u us (ne_eqb u uid (λ e. omega (arith, here)))
    ∙ ap (option_map (λ i. i + 1)) (found_at uid us i d (omega arith) (λ k le. less (suc k) (omega arith)) e) ∙ ap Some (let z : i + 1 ≡ suc i = omega arith in z)

-- among numbers that rise
pub found_rising : (uid low high : ℕ) (us : List ℕ) (i d : ℕ) → Rises low high us → i < length us → get_or us i d ≡ uid → place_in uid us ≡ Some i
found_rising uid low high [] i d h lt e = absurd (omega arith)
found_rising uid low high (u ∷ us) zero d h lt e = place_yes uid u us e
found_rising uid low high (u ∷ us) (suc i) d h lt e =
    let least = at_least (u + 1) high us i d h.1 (omega arith) in
    place_no uid u us (ne_eqb u uid (λ same. omega (arith, least, same, e)))
    ∙ ap (option_map (λ i. i + 1)) (found_rising uid (u + 1) high us i d h.1 (omega arith) e) ∙ ap Some (let z : i + 1 ≡ suc i = omega arith in z)

absent : (uid : ℕ) (us : List ℕ) (d : ℕ) → ((k : ℕ) → k < length us → eqb (get_or us k d) uid ≡ false) → place_in uid us ≡ None
absent uid [] d differs = refl
absent uid (u ∷ us) d differs =
    place_no uid u us (differs 0 (omega arith)) ∙ ap (option_map (λ i. i + 1)) (absent uid us d (λ k lt. differs (suc k) (omega arith)))

-- a place that was found, or none, as the test at the front says
pub front_some : (b : Bool) (o : Option ℕ) (i : ℕ) (P : Type 0) → cond b (Some 0) (option_map (λ i. i + 1) o) ≡ Some i
    → (b ≡ true → i ≡ 0 → P) → ((j : ℕ) → b ≡ false → o ≡ Some j → i ≡ suc j → P) → P
front_some true o i P e now later = now refl (cc e)
front_some false None i P e now later = absurd (cc e)
front_some false (Some j) i P e now later = let z : j + 1 ≡ i = cc e in later j refl refl (omega arith)

front_none : (b : Bool) (o : Option ℕ) → cond b (Some 0) (option_map (λ i. i + 1) o) ≡ None → (b ≡ false) × (o ≡ None)
front_none true o e = absurd (cc e)
front_none false None e = (refl, refl)
front_none false (Some j) e = absurd (cc e)

pub inside : (uid : ℕ) (us : List ℕ) (i : ℕ) → place_in uid us ≡ Some i → i < length us
inside uid [] i e = absurd (cc e)
inside uid (u ∷ us) i e = front_some (eqb u uid) (place_in uid us) i (i < length (u ∷ us)) e
    (λ t z. omega (arith, z))
    (λ j t f z. let rest = inside uid us j f in omega (arith, z, rest))

pub number_there : (uid : ℕ) (us : List ℕ) (i d : ℕ) → place_in uid us ≡ Some i → get_or us i d ≡ uid
number_there uid [] i d e = absurd (cc e)
number_there uid (u ∷ us) i d e = front_some (eqb u uid) (place_in uid us) i (get_or (u ∷ us) i d ≡ uid) e
    (λ t z. ap (λ k. get_or (u ∷ us) k d) z ∙ eqb-true u uid t)
    (λ j t f z. ap (λ k. get_or (u ∷ us) k d) z ∙ number_there uid us j d f)

or_true : (b : Bool) → b || true ≡ true
or_true true = refl
or_true false = refl

pub among_found : (uid : ℕ) (us : List ℕ) (i : ℕ) → place_in uid us ≡ Some i → is_among uid us ≡ true
among_found uid [] i e = absurd (cc e)
among_found uid (u ∷ us) i e = front_some (eqb u uid) (place_in uid us) i (is_among uid (u ∷ us) ≡ true) e
    (λ t z. ap (λ b. b || is_among uid us) t)
    (λ j t f z. ap (λ b. eqb u uid || b) (among_found uid us j f) ∙ or_true (eqb u uid))

pub among_nowhere : (uid : ℕ) (us : List ℕ) → place_in uid us ≡ None → is_among uid us ≡ false
among_nowhere uid [] e = refl
among_nowhere uid (u ∷ us) e =
    let parts = front_none (eqb u uid) (place_in uid us) e in
    ap (λ b. b || is_among uid us) parts.0 ∙ among_nowhere uid us parts.1

pub place_tells : (uid : ℕ) (us : List ℕ) → is_some (place_in uid us) ≡ is_among uid us
place_tells uid us = by (place_in uid us) refl
  where
    by : (o : Option ℕ) → place_in uid us ≡ o → is_some o ≡ is_among uid us
    by (Some i) e = sym (among_found uid us i e)
    by None e = sym (among_nowhere uid us e)

-- ---- messages

pub uid_at : (messages : List Message) (i e : ℕ) (d : Message) → i < length messages → get_or (uids_in messages) i e ≡ (get_or messages i d).uid
uid_at [] i e d lt = absurd (omega arith)
uid_at (m ∷ messages) zero e d lt = refl
uid_at (m ∷ messages) (suc i) e d lt = uid_at messages i e d (omega arith)

count : (messages : List Message) → length (uids_in messages) ≡ length messages
count messages = length-map messages (λ (m : Message). m.uid)

pub found_in_messages : (uid low high : ℕ) (messages : List Message) (i : ℕ) (d : Message) → Rises low high (uids_in messages) → i < length messages → (get_or messages i d).uid ≡ uid → place_in uid (uids_in messages) ≡ Some i
found_in_messages uid low high messages i d h lt e = found_rising uid low high (uids_in messages) i 0 h (omega (arith, count messages, lt)) (uid_at messages i 0 d lt ∙ e)

pub no_decrease : (low high : ℕ) (messages : List Message) → Rises low high (uids_in messages) → IsNonDecreasingBy (λ m. m.uid) messages
no_decrease low high messages h i j d le lt =
    omega (arith, count messages, up low high (uids_in messages) i j 0 h le (omega (arith, count messages, lt)), uid_at messages i 0 d (omega arith), uid_at messages j 0 d lt)

-- where a search stops is where the test fails first
pub led : {X : Type 0} (p : X → Bool) (xs : List X) (i : ℕ) → i ≤ length xs → IsPartitionPoint (λ x. p x ≡ true) (λ x. p x ≡ false) xs i → i ≡ prefix_len p xs
led p [] i le point = omega (arith, le)
led p (x ∷ xs) zero le point = ap (λ b. cond b (1 + prefix_len p xs) 0) (sym (point.1 0 x (omega arith) (omega arith)))
led p (x ∷ xs) (suc i) le point =
    let rest = led p xs i (omega (arith, le)) (λ k d low high. point.0 (suc k) d (omega arith) (omega (arith, high)), λ k d low high. point.1 (suc k) d (omega (arith, low)) (omega (arith, high))) in
    (let e : suc i ≡ 1 + prefix_len p xs = omega (arith, rest) in e) ∙ ap (λ b. cond b (1 + prefix_len p xs) 0) (sym (point.0 0 x (omega arith) (omega arith)))

module _ (uid low high : ℕ) (messages : List Message) (i : ℕ) (h : Rises low high (uids_in messages)) (at : IsPartitionPoint (λ (m : Message). ltb m.uid uid ≡ true) (λ m. ltb m.uid uid ≡ false) messages i) where
  less : (k : ℕ) (d : Message) → k < i → k < length messages → get_or (uids_in messages) k 0 < uid
  less k d lt within =
      let t = ltb-true (get_or messages k d).uid uid (at.0 k d (omega arith) lt) in
      omega (arith, t, uid_at messages k 0 d within)

  pub search_found : (d : Message) → i < length messages → (get_or messages i d).uid ≡ uid → place_in uid (uids_in messages) ≡ Some i
  search_found d lt e = found_at uid (uids_in messages) i 0 (omega (arith, count messages, lt))
      (λ k before. less k d before (omega arith)) (uid_at messages i 0 d lt ∙ e)

  past_with : (d : Message) → length messages ≤ i → place_in uid (uids_in messages) ≡ None
  past_with d le = absent uid (uids_in messages) 0 (λ k lt.
      let t = less k d (omega (arith, count messages, lt)) (omega (arith, count messages, lt)) in
      ne_eqb (get_or (uids_in messages) k 0) uid (λ e. omega (arith, t)))

  pub search_other : (d : Message) → i < length messages → (get_or messages i d).uid ≢ uid → place_in uid (uids_in messages) ≡ None
  search_other d within other = absent uid (uids_in messages) 0 (λ k lt. ⊎_elim
      (λ (before : k < i).
      let t = less k d before (omega (arith, count messages, lt)) in
      ne_eqb (get_or (uids_in messages) k 0) uid (λ e. omega (arith, t)))
      (λ (after : i ≤ k).
      let least = ltb-false (get_or messages i d).uid uid (at.1 i d (omega arith) within) in
      let rise = up low high (uids_in messages) i k 0 h after lt in
      let is = uid_at messages i 0 d within in
      ne_eqb (get_or (uids_in messages) k 0) uid (λ e. let same : (get_or messages i d).uid ≡ uid = omega (arith, least, rise, is) in absurd (other same)))
      (cases_lt k i))

pub search_past : (uid low high : ℕ) (messages : List Message) (i : ℕ) → Rises low high (uids_in messages)
    → IsPartitionPoint (λ (m : Message). ltb m.uid uid ≡ true) (λ m. ltb m.uid uid ≡ false) messages i → length messages ≤ i → place_in uid (uids_in messages) ≡ None
search_past uid low high [] i h at le = refl
search_past uid low high (m ∷ messages) i h at le = past_with uid low high (m ∷ messages) i h at m le

pub message_there : (uid : ℕ) (messages : List Message) (i : ℕ) (d : Message) → place_in uid (uids_in messages) ≡ Some i → message_at uid messages ≡ Some (get_or messages i d)
message_there uid [] i d e = absurd (cc e)
message_there uid (m ∷ messages) i d e = front_some (eqb m.uid uid) (place_in uid (uids_in messages)) i (message_at uid (m ∷ messages) ≡ Some (get_or (m ∷ messages) i d)) e
    (λ t z. ap (λ b. cond b (Some m) (message_at uid messages)) t ∙ ap (λ k. Some (get_or (m ∷ messages) k d)) (sym z))
    (λ j t f z. ap (λ b. cond b (Some m) (message_at uid messages)) t ∙ message_there uid messages j d f ∙ ap (λ k. Some (get_or (m ∷ messages) k d)) (sym z))

pub message_nowhere : (uid : ℕ) (messages : List Message) → place_in uid (uids_in messages) ≡ None → message_at uid messages ≡ None
message_nowhere uid [] e = refl
message_nowhere uid (m ∷ messages) e =
    let parts = front_none (eqb m.uid uid) (place_in uid (uids_in messages)) e in
    ap (λ b. cond b (Some m) (message_at uid messages)) parts.0 ∙ message_nowhere uid messages parts.1

-- ---- flags

pub put_nowhere : (uid : ℕ) (flags : SharedFlags) (p : ℕ) (messages : List Message) → place_in uid (uids_in messages) ≡ None → map (flags_in uid flags p) messages ≡ messages
put_nowhere uid flags p [] e = refl
put_nowhere uid flags p (m ∷ messages) e =
    let parts = front_none (eqb m.uid uid) (place_in uid (uids_in messages)) e in
    λ i. cond (parts.0 i) (record { uid = m.uid; date = m.date; octets = m.octets; flags = flags; place = p }) m ∷ put_nowhere uid flags p messages parts.1 i

abbrev pub put : SharedFlags → ℕ → Message → Message
put flags p m = record { uid = m.uid; date = m.date; octets = m.octets; flags = flags; place = p }

pub put_above : (uid : ℕ) (flags : SharedFlags) (p low high : ℕ) (messages : List Message) → uid < low → Rises low high (uids_in messages) → map (flags_in uid flags p) messages ≡ messages
put_above uid flags p low high [] lt h = refl
put_above uid flags p low high (m ∷ messages) lt h =
    let at : low ≤ m.uid = h.0 in
    λ i. cond (ne_eqb m.uid uid (λ e. omega arith) i) (put flags p m) m ∷ put_above uid flags p (m.uid + 1) high messages (omega arith) h.1 i

pub put_there : (uid : ℕ) (flags : SharedFlags) (p low high : ℕ) (messages : List Message) (i : ℕ) (d : Message) → Rises low high (uids_in messages) → place_in uid (uids_in messages) ≡ Some i
    → set messages i (put flags p (get_or messages i d)) ≡ map (flags_in uid flags p) messages
put_there uid flags p low high [] i d h e = absurd (cc e)
put_there uid flags p low high (m ∷ messages) i d h e =
    front_some (eqb m.uid uid) (place_in uid (uids_in messages)) i (set (m ∷ messages) i (put flags p (get_or (m ∷ messages) i d)) ≡ map (flags_in uid flags p) (m ∷ messages)) e
    (λ t z. ap (λ k. set (m ∷ messages) k (put flags p (get_or (m ∷ messages) k d))) z
    ∙ (λ i. cond (sym t i) (put flags p m) m ∷ sym (put_above uid flags p (m.uid + 1) high messages (let is = eqb-true m.uid uid t in omega (arith, is)) h.1) i))
    (λ j t f z. ap (λ k. set (m ∷ messages) k (put flags p (get_or (m ∷ messages) k d))) z
    ∙ (λ i. cond (sym t i) (put flags p m) m ∷ put_there uid flags p (m.uid + 1) high messages j d h.1 f i))

pub seen_unwrapped : (o : Option (ℕ × Bool)) → (unwrap_or o (0, false)).1 ≡ latest_seen o
seen_unwrapped None = refl
seen_unwrapped (Some p) = refl
