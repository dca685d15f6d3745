-- Sessions that were brought up to a mod-sequence.
use Rattle.std.proofs.Common.{◌≡◌, ℕ, ◌+◌, ◌<◌, ◌≤◌, eqb, not, Bool, true, false, cond, MatchBool, List, [], ◌∷◌, ◌++◌, map, filter, refl, sym, subst, arith}
use Rattle.std.proofs.lemmas.Bool.{ne_eqb, eq-eqb, eqb-true}
use Rattle.imap_mailbox.specs.declared.known.KnownMessage.{KnownMessage}
use Rattle.imap_mailbox.specs.Rows.{Added, FlagsSet, Expunged, Row, row_of, at_uid, first_uid}
use Rattle.imap_mailbox.specs.Summary.{Rises}
use Rattle.imap_mailbox.specs.Lent.{row_uids}
use Rattle.imap_mailbox.specs.Order.{AreAtMost}
use Rattle.imap_mailbox.specs.Brought.{told_of, known_uids, highest_in, AreAbove, AreToldBy, Agree, EventsAreLater, SeenIsLater, ShownIsOrdered, AllToldIsBrought}
use Rattle.imap_mailbox.proofs.Bounds.{rows_in_order}
use Rattle.imap_mailbox.proofs.Rising.{rises_end, rises_lower, rises_upper}

-- ---- one event more

above_push : (n : ℕ) (rows : List Row) (r : Row) → n < r.number → AreAbove n rows → AreAbove n (rows ++ r ∷ [])
above_push n [] r lt h = (lt, tt)
above_push n (x ∷ rows) r lt h = (h.0, above_push n rows r lt h.1)

agree_push : (n low : ℕ) (known : List KnownMessage) (rows : List Row) (r : Row) → n < r.number → Rises low r.uid (known_uids known)
    → Agree n known rows → Agree n known (rows ++ r ∷ [])
agree_push n low [] rows r lt rises h = above_push n rows r lt h
agree_push n low (k ∷ known) [] r lt rises h =
    let above : k.uid + 1 ≤ r.uid = rises_end (k.uid + 1) r.uid (known_uids known) rises.1 in
    subst (λ b. MatchBool b ((r.number ≤ n → told_of r ≡ k) × Agree n known []) ((k.uid < r.uid) × Agree n known (r ∷ [])))
    (sym (ne_eqb k.uid r.uid (λ e. omega arith)))
    (omega arith, agree_push n (k.uid + 1) known [] r lt rises.1 h)
agree_push n low (k ∷ known) (x ∷ rows) r lt rises h =
    by (eqb k.uid x.uid) (agree_push n (k.uid + 1) known rows r lt rises.1) (agree_push n (k.uid + 1) known (x ∷ rows) r lt rises.1) h
  where
    by : (b : Bool) → (Agree n known rows → Agree n known (rows ++ r ∷ [])) → (Agree n known (x ∷ rows) → Agree n known (x ∷ rows ++ r ∷ []))
        → MatchBool b ((x.number ≤ n → told_of x ≡ k) × Agree n known rows) ((k.uid < x.uid) × Agree n known (x ∷ rows))
        → MatchBool b ((x.number ≤ n → told_of x ≡ k) × Agree n known (rows ++ r ∷ [])) ((k.uid < x.uid) × Agree n known (x ∷ rows ++ r ∷ []))
    by true there gone h = (h.0, there h.1)
    by false there gone h = (h.0, gone h.1)

-- ---- a row gets a number above n

put_uid : (m uid : ℕ) (f : Row → Row) → ((r : Row) → (f r).uid ≡ r.uid) → (r : Row) → (at_uid m uid f r).uid ≡ r.uid
put_uid m uid f same r = by (eqb r.uid uid)
  where
    by : (b : Bool) → (cond b (record (f r) { number = m }) r).uid ≡ r.uid
    by true = same r
    by false = refl

above_put : (n m uid : ℕ) (f : Row → Row) → n < m → (rows : List Row) → AreAbove n rows → AreAbove n (map (at_uid m uid f) rows)
above_put n m uid f lt [] h = tt
above_put n m uid f lt (r ∷ rows) h = (by (eqb r.uid uid), above_put n m uid f lt rows h.1)
  where
    by : (b : Bool) → n < (cond b (record (f r) { number = m }) r).number
    by true = lt
    by false = h.0

agree_put : (n m uid : ℕ) (f : Row → Row) → ((r : Row) → (f r).uid ≡ r.uid) → n < m → (known : List KnownMessage) (rows : List Row)
    → Agree n known rows → Agree n known (map (at_uid m uid f) rows)
agree_put n m uid f same lt [] rows h = above_put n m uid f lt rows h
agree_put n m uid f same lt (k ∷ known) [] h = agree_put n m uid f same lt known [] h
agree_put n m uid f same lt (k ∷ known) (r ∷ rows) h =
    subst (λ (u : ℕ). MatchBool (eqb k.uid u) ((new.number ≤ n → told_of new ≡ k) × Agree n known (map (at_uid m uid f) rows)) ((k.uid < u) × Agree n known (map (at_uid m uid f) (r ∷ rows))))
    (sym (put_uid m uid f same r))
    (by (eqb k.uid r.uid) (agree_put n m uid f same lt known rows) (agree_put n m uid f same lt known (r ∷ rows)) h)
  where
    new : Row
    new = at_uid m uid f r

    number_by : (b : Bool) → (r.number ≤ n → told_of r ≡ k)
        → (cond b (record (f r) { number = m }) r).number ≤ n → told_of (cond b (record (f r) { number = m }) r) ≡ k
    number_by true old le = absurd (omega (arith, le, lt))
    number_by false old le = old le

    by : (b : Bool) → (Agree n known rows → Agree n known (map (at_uid m uid f) rows)) → (Agree n known (r ∷ rows) → Agree n known (map (at_uid m uid f) (r ∷ rows)))
        → MatchBool b ((r.number ≤ n → told_of r ≡ k) × Agree n known rows) ((k.uid < r.uid) × Agree n known (r ∷ rows))
        → MatchBool b ((new.number ≤ n → told_of new ≡ k) × Agree n known (map (at_uid m uid f) rows)) ((k.uid < r.uid) × Agree n known (map (at_uid m uid f) (r ∷ rows)))
    by true there gone h = (number_by (eqb r.uid uid) h.0, there h.1)
    by false there gone h = (h.0, gone h.1)

-- ---- a row less

above_filter : (n : ℕ) (p : Row → Bool) (rows : List Row) → AreAbove n rows → AreAbove n (filter p rows)
above_filter n p [] h = tt
above_filter n p (r ∷ rows) h = by (p r) (above_filter n p rows h.1)
  where
    by : (b : Bool) → AreAbove n (filter p rows) → AreAbove n (cond b (r ∷ filter p rows) (filter p rows))
    by true rest = (h.0, rest)
    by false rest = rest

rises_filter : (low high : ℕ) (p : Row → Bool) (rows : List Row) → Rises low high (row_uids rows) → Rises low high (row_uids (filter p rows))
rises_filter low high p [] h = h
rises_filter low high p (r ∷ rows) h = by (p r) (rises_filter (r.uid + 1) high p rows h.1)
  where
    by : (b : Bool) → Rises (r.uid + 1) high (row_uids (filter p rows)) → Rises low high (row_uids (cond b (r ∷ filter p rows) (filter p rows)))
    by true rest = (h.0, rest)
    by false rest = let first : low ≤ r.uid = h.0 in rises_lower (r.uid + 1) low high (row_uids (filter p rows)) (omega arith) rest

-- a known message before all rows is gone
gone_front : (n high : ℕ) (k : KnownMessage) (known : List KnownMessage) (rows : List Row) → Rises (k.uid + 1) high (row_uids rows) → Agree n known rows → Agree n (k ∷ known) rows
gone_front n high k known [] rises h = h
gone_front n high k known (r ∷ rows) rises h =
    let first : k.uid + 1 ≤ r.uid = rises.0 in
    subst (λ b. MatchBool b ((r.number ≤ n → told_of r ≡ k) × Agree n known rows) ((k.uid < r.uid) × Agree n known (r ∷ rows)))
    (sym (ne_eqb k.uid r.uid (λ e. omega arith))) (omega arith, h)

agree_filter : (n low high : ℕ) (p : Row → Bool) (known : List KnownMessage) (rows : List Row) → Rises low high (row_uids rows)
    → Agree n known rows → Agree n known (filter p rows)
agree_filter n low high p [] rows rises h = above_filter n p rows h
agree_filter n low high p (k ∷ known) [] rises h = agree_filter n low high p known [] rises h
agree_filter n low high p (k ∷ known) (r ∷ rows) rises h =
    by (eqb k.uid r.uid) refl (agree_filter n (r.uid + 1) high p known rows rises.1) (agree_filter n low high p known (r ∷ rows) rises) h
  where
    rest : Rises (r.uid + 1) high (row_uids (filter p rows))
    rest = rises_filter (r.uid + 1) high p rows rises.1

    there_by : (b : Bool) → eqb k.uid r.uid ≡ true → (r.number ≤ n → told_of r ≡ k) → Agree n known (filter p rows)
        → Agree n (k ∷ known) (cond b (r ∷ filter p rows) (filter p rows))
    there_by true is same h =
        subst (λ b. MatchBool b ((r.number ≤ n → told_of r ≡ k) × Agree n known (filter p rows)) ((k.uid < r.uid) × Agree n known (r ∷ filter p rows)))
        (sym is) (same, h)
    there_by false is same h =
        gone_front n high k known (filter p rows) (subst (λ u. Rises (u + 1) high (row_uids (filter p rows))) (sym (eqb-true k.uid r.uid is)) rest) h

    gone_by : (b : Bool) → eqb k.uid r.uid ≡ false → k.uid < r.uid → Agree n known (cond b (r ∷ filter p rows) (filter p rows))
        → Agree n (k ∷ known) (cond b (r ∷ filter p rows) (filter p rows))
    gone_by true is lt h =
        subst (λ b. MatchBool b ((r.number ≤ n → told_of r ≡ k) × Agree n known (filter p rows)) ((k.uid < r.uid) × Agree n known (r ∷ filter p rows)))
        (sym is) (lt, h)
    gone_by false is lt h = gone_front n high k known (filter p rows) (rises_lower (r.uid + 1) (k.uid + 1) high (row_uids (filter p rows)) (omega arith) rest) h

    by : (b : Bool) → eqb k.uid r.uid ≡ b → (Agree n known rows → Agree n known (filter p rows)) → (Agree n known (r ∷ rows) → Agree n known (filter p (r ∷ rows)))
        → MatchBool b ((r.number ≤ n → told_of r ≡ k) × Agree n known rows) ((k.uid < r.uid) × Agree n known (r ∷ rows))
        → Agree n (k ∷ known) (filter p (r ∷ rows))
    by true is there gone h = there_by (p r) is h.0 (there h.1)
    by false is there gone h = gone_by (p r) is h.0 (gone h.1)

-- ---- what each event keeps

pub events_are_later : EventsAreLater
events_are_later c (Added m) ordered given up_to known h = record {
  before = omega (arith, h.before);
  uids = rises_upper first_uid c.next (m.uid + 1) (known_uids known) (omega arith) h.uids;
  told = h.told;
  agree = agree_push up_to first_uid known c.rows (row_of (2 + (c.shared + c.own)) m) (omega (arith, h.before))
      (subst (λ u. Rises first_uid u (known_uids known)) (sym given) h.uids) h.agree;
}
events_are_later c (FlagsSet uid flags) ordered given up_to known h = record {
  before = omega (arith, h.before);
  uids = h.uids;
  told = h.told;
  agree = agree_put up_to (2 + (c.shared + c.own)) uid (λ r. record r { flags = flags }) (λ r. refl) (omega (arith, h.before)) known c.rows h.agree;
}
events_are_later c (Expunged uid) ordered given up_to known h = record {
  before = omega (arith, h.before);
  uids = h.uids;
  told = h.told;
  agree = agree_filter up_to first_uid c.next (λ r. not (eqb r.uid uid)) known c.rows ordered.uids h.agree;
}

pub seen_is_later : SeenIsLater
seen_is_later c uid seen up_to known h = record {
  before = omega (arith, h.before);
  uids = h.uids;
  told = h.told;
  agree = agree_put up_to (2 + (c.shared + c.own)) uid (λ r. record r { seen = seen }) (λ r. refl) (omega (arith, h.before)) known c.rows h.agree;
}

-- ---- what is told

agree_all : (n : ℕ) (rows : List Row) → Agree n (map told_of rows) rows
agree_all n [] = tt
agree_all n (r ∷ rows) =
    subst (λ b. MatchBool b ((r.number ≤ n → told_of r ≡ told_of r) × Agree n (map told_of rows) rows) ((r.uid < r.uid) × Agree n (map told_of rows) (r ∷ rows)))
    (sym (eq-eqb r.uid r.uid refl)) (λ le. refl, agree_all n rows)

pub rises_all : (low high : ℕ) (rows : List Row) → Rises low high (row_uids rows) → Rises low high (known_uids (map told_of rows))
rises_all low high [] h = h
rises_all low high (r ∷ rows) h = (h.0, rises_all (r.uid + 1) high rows h.1)

pub shown_is_ordered : ShownIsOrdered
shown_is_ordered s user kept = rows_in_order s user kept

told_by_all : (n : ℕ) (rows : List Row) → AreAtMost n rows → AreToldBy n (map told_of rows)
told_by_all n [] h = tt
told_by_all n (r ∷ rows) h = (h.0, told_by_all n rows h.1)

pub all_told_is_brought : AllToldIsBrought
all_told_is_brought c ordered = record {
  before = omega arith;
  uids = rises_all first_uid c.next c.rows ordered.uids;
  told = told_by_all (highest_in c) c.rows ordered.numbers;
  agree = agree_all (highest_in c) c.rows;
}
