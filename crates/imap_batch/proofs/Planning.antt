-- Rows that are planned are those that a batch leaves.
use Rattle.std.proofs.Common.{◌≡◌, ◌≢◌, ℕ, ◌+◌, ◌<◌, ◌≤◌, eqb, not, Bool, true, false, cond, ◌&&◌, ◌||◌, List, [], ◌∷◌, ◌++◌, append_assoc, append-nil, length, map, filter, Option, Some, None, refl, sym, ap, subst, ◌∙◌, arith}
use Rattle.std.specs.Prelude.{nat_lt, nat_le, is_some, min}
use Rattle.std.proofs.lemmas.Bool.{and_parts, and_from, eqb-true, ne_eqb, eq-eqb, le-leb, ltb-true, ltb-false}
use Rattle.imap_modseq.specs.Numbers.{max_events, number_after}
use Rattle.imap_mailbox.specs.declared.flags.SharedFlags.{SharedFlags}
use Rattle.imap_mailbox.specs.Rows.{Row, Expunged, FlagsSet, row_of, at_uid, is_among, first_uid}
use Rattle.imap_mailbox.specs.Held.{IsKept}
use Rattle.imap_mailbox.specs.Lent.{row_uids}
use Rattle.imap_mailbox.specs.Own.{own_at}
use Rattle.imap_mailbox.specs.Calls.{arrival}
use Rattle.imap_mailbox.specs.Summary.{Summary, Rises, rows_of, uids_in}
use Rattle.imap_mailbox.specs.Shown.{Content, content_of, content_after, content_with_seen, if_shown, content_without, content_expunged}
use Rattle.imap_mailbox.proofs.Accounts.{turned}
use Rattle.imap_mailbox.proofs.BroughtUp.{shown_is_ordered}
use Rattle.imap_mailbox.proofs.Lending.{uids_lent}
use Rattle.imap_mailbox.proofs.Rising.{rises_end, rises_upper, rises_push}
use Rattle.imap_batch.specs.declared.batch.NewMessage.{NewMessage}
use Rattle.imap_batch.specs.declared.batch.FlagUpdate.{FlagUpdate}
use Rattle.imap_batch.specs.declared.batch.Batch.{Batch}
use Rattle.imap_batch.specs.declared.write.BatchWrite.{BatchWrite}
use Rattle.imap_batch.specs.Batch.{one_if, added_seen_count, are_known, has_messages, mark_uids, write_of}
use Rattle.imap_batch.specs.Written.{with_batch}
use Rattle.imap_batch.specs.Seen.{own_seen, message_seen, new_seen, added_seen, flags_seen, seen_seen, mark_seen, marks_seen, content_batched}
use Rattle.imap_batch.specs.Planned.{own_after, row_with_flags, row_with_seen, row_marked, seen_added, row_added, rows_marked, rows_left, rows_added, own_after_all, rows_planned, BatchIsPlanned}
use Rattle.imap_batch.proofs.Sights.{shows_batch}
use Rattle.imap_batch.proofs.Known.{among_last, known_within, known_drop, known_append}
use Rattle.imap_batch.proofs.Steps.{among_given}

-- ---- UIDs of rows

uids_append : (a b : List Row) → row_uids (a ++ b) ≡ row_uids a ++ row_uids b
uids_append [] b = refl
uids_append (r ∷ a) b = ap (λ us. r.uid ∷ us) (uids_append a b)

-- ---- what is added

uid_flagged : (n : ℕ) (o : Option SharedFlags) (r : Row) → (row_with_flags n o r).uid ≡ r.uid
uid_flagged n None r = refl
uid_flagged n (Some flags) r = refl

uid_seen : (own n : ℕ) (o : Option Bool) (r : Row) → (row_with_seen own n o r).uid ≡ r.uid
uid_seen own n None r = refl
uid_seen own n (Some seen) r = by (nat_lt own max_events)
  where
    by : (b : Bool) → (cond b (record { uid = r.uid; date = r.date; octets = r.octets; flags = r.flags; seen = seen; number = n }) r).uid ≡ r.uid
    by true = refl
    by false = refl

uid_added : (uid shared own : ℕ) (m : NewMessage) → (row_added uid shared own m).uid ≡ uid
uid_added uid shared own m = uid_seen own (number_after (shared + 1) own) (seen_added m) (row_of (number_after shared own) (arrival uid m.date m.octets m.flags))

new_rise : (uid shared own : ℕ) (added : List NewMessage) → Rises uid (uid + length added) (row_uids (rows_added uid shared own added))
new_rise uid shared own [] = omega arith
new_rise uid shared own (m ∷ added) =
    let is = uid_added uid shared own m in
    let rest = new_rise (uid + 1) (shared + 1) (own_after own (seen_added m)) added in (
      omega (arith, is),
      subst (λ (u : ℕ). Rises (u + 1) (uid + length (m ∷ added)) (row_uids (rows_added (uid + 1) (shared + 1) (own_after own (seen_added m)) added))) (sym is)
          (rises_upper (uid + 1) (uid + 1 + length added) (uid + length (m ∷ added)) (row_uids (rows_added (uid + 1) (shared + 1) (own_after own (seen_added m)) added)) (omega arith) rest),
    )

-- a change of a UID above all rows
put_above : (n uid low : ℕ) (f : Row → Row) (rows : List Row) → Rises low uid (row_uids rows) → map (at_uid n uid f) rows ≡ rows
put_above n uid low f [] h = refl
put_above n uid low f (r ∷ rows) h =
    let below : r.uid + 1 ≤ uid = rises_end (r.uid + 1) uid (row_uids rows) h.1 in
    λ i. cond (ne_eqb r.uid uid (λ e. omega (arith, below, e)) i) (record (f r) { number = n }) r ∷ put_above n uid (r.uid + 1) f rows h.1 i

map_append : (f : Row → Row) (a b : List Row) → map f (a ++ b) ≡ map f a ++ map f b
map_append f [] b = refl
map_append f (r ∷ a) b = ap (λ rs. f r ∷ rs) (map_append f a b)

record IsNew (c : Content) (r : Row) (own : ℕ) (d : Content) : Type 0 where
  pub rows : d.rows ≡ c.rows ++ r ∷ []
  pub next : d.next ≡ c.next + 1
  pub shared : d.shared ≡ c.shared + 1
  pub own_is : d.own ≡ own

module _ (m : NewMessage) (c : Content) (h : Rises first_uid c.next (row_uids c.rows)) where
  abbrev plain : Row
  plain = row_of (number_after c.shared c.own) (arrival c.next m.date m.octets m.flags)

  abbrev seen_row : Row
  seen_row = record { uid = c.next; date = m.date; octets = m.octets; flags = m.flags; seen = true; number = number_after (c.shared + 1) c.own }

  abbrev d : Content
  d = message_seen m c

  put_last : map (at_uid (number_after (c.shared + 1) c.own) c.next (λ r. record r { seen = true })) (c.rows ++ plain ∷ []) ≡ c.rows ++ seen_row ∷ []
  put_last =
      map_append (at_uid (number_after (c.shared + 1) c.own) c.next (λ r. record r { seen = true })) c.rows (plain ∷ [])
      ∙ λ i. put_above (number_after (c.shared + 1) c.own) c.next first_uid (λ r. record r { seen = true }) c.rows h i ++ cond (eq-eqb c.next c.next refl i) seen_row plain ∷ []

  there : is_among c.next (row_uids d.rows) ≡ true
  there = ap (is_among c.next) (uids_append c.rows (plain ∷ [])) ∙ among_last c.next (row_uids c.rows)

  new_is : IsNew c (row_added c.next c.shared c.own m) (own_after c.own (seen_added m)) (new_seen m c)
  new_is = by m.seen
    where
      left : (x : Bool) → IsNew c (cond x seen_row plain) (cond x (c.own + 1) c.own) (cond x (if_shown c.next (content_with_seen c.next true d) d) d)
      left false = record { rows = refl; next = refl; shared = refl; own_is = refl }
      left true = subst (λ z. IsNew c seen_row (c.own + 1) (cond z (content_with_seen c.next true d) d)) (sym there)
          (record { rows = put_last; next = refl; shared = refl; own_is = refl })

      by : (b : Bool) → IsNew c (row_with_seen c.own (number_after (c.shared + 1) c.own) (cond b (Some true) None) plain) (own_after c.own (cond b (Some true) None)) (cond b (own_seen c.next true d) d)
      by false = record { rows = refl; next = refl; shared = refl; own_is = refl }
      by true = left (nat_lt c.own max_events)

  new_rises : (r : Row) → r.uid ≡ c.next → Rises first_uid (c.next + 1) (row_uids (c.rows ++ r ∷ []))
  new_rises r is =
      subst (Rises first_uid (c.next + 1)) (sym (uids_append c.rows (r ∷ []) ∙ ap (λ u. row_uids c.rows ++ u ∷ []) is))
      (rises_push first_uid c.next c.next (row_uids c.rows) (omega arith) h)

record AreNew (c : Content) (added : List NewMessage) (d : Content) : Type 0 where
  pub rows : d.rows ≡ c.rows ++ rows_added c.next c.shared c.own added
  pub shared : d.shared ≡ c.shared + length added
  pub own_is : d.own ≡ own_after_all c.own added

added_are : (added : List NewMessage) (c : Content) → Rises first_uid c.next (row_uids c.rows) → AreNew c added (added_seen added c)
added_are [] c h = record { rows = sym (append-nil c.rows); shared = omega arith; own_is = refl }
added_are (m ∷ added) c h =
    let one = new_is m c h in
    let row : Row = row_added c.next c.shared c.own m in
    let rises : Rises first_uid (new_seen m c).next (row_uids (new_seen m c).rows) = subst (λ rows. Rises first_uid (new_seen m c).next (row_uids rows)) (sym one.rows)
    (subst (λ n. Rises first_uid n (row_uids (c.rows ++ row ∷ []))) (sym one.next) (new_rises m c h row (uid_added c.next c.shared c.own m))) in
    let rest = added_are added (new_seen m c) rises in
    record {
      rows = rest.rows ∙ (λ i. one.rows i ++ rows_added (one.next i) (one.shared i) (one.own_is i) added)
          ∙ append_assoc c.rows (row ∷ []) (rows_added (c.next + 1) (c.shared + 1) (own_after c.own (seen_added m)) added);
      shared = omega (arith, rest.shared, one.shared);
      own_is = rest.own_is ∙ ap (λ n. own_after_all n added) one.own_is;
    }

-- ---- what is marked

abbrev mark_at : ℕ → ℕ → FlagUpdate → Row → Row
mark_at shared own k r = cond (eqb r.uid k.uid) (row_marked shared own k r) r

abbrev marked_all : ℕ → ℕ → List FlagUpdate → List Row → List Row
marked_all shared own [] rows = rows
marked_all shared own (k ∷ marks) rows = marked_all (shared + one_if (is_some k.flags)) (own_after own k.seen) marks (map (mark_at shared own k) rows)

pub uid_marked : (shared own : ℕ) (k : FlagUpdate) (r : Row) → (row_marked shared own k r).uid ≡ r.uid
uid_marked shared own k r =
    uid_seen own (number_after (shared + one_if (is_some k.flags)) own) k.seen (row_with_flags (number_after shared own) k.flags r) ∙ uid_flagged (number_after shared own) k.flags r

uid_at : (shared own : ℕ) (k : FlagUpdate) (r : Row) → (mark_at shared own k r).uid ≡ r.uid
uid_at shared own k r = by (eqb r.uid k.uid)
  where
    by : (b : Bool) → (cond b (row_marked shared own k r) r).uid ≡ r.uid
    by true = uid_marked shared own k r
    by false = refl

uids_at : (shared own : ℕ) (k : FlagUpdate) (rows : List Row) → row_uids (map (mark_at shared own k) rows) ≡ row_uids rows
uids_at shared own k [] = refl
uids_at shared own k (r ∷ rows) = λ i. uid_at shared own k r i ∷ uids_at shared own k rows i

-- rows of other UIDs stay
miss : (shared own : ℕ) (k : FlagUpdate) (r : Row) → r.uid ≢ k.uid → mark_at shared own k r ≡ r
miss shared own k r apart = ap (λ b. cond b (row_marked shared own k r) r) (ne_eqb r.uid k.uid apart)

miss_all : (shared own low high : ℕ) (k : FlagUpdate) (rows : List Row) → k.uid < low → Rises low high (row_uids rows) → map (mark_at shared own k) rows ≡ rows
miss_all shared own low high k [] lt h = refl
miss_all shared own low high k (r ∷ rows) lt h =
    let at : low ≤ r.uid = h.0 in
    λ i. miss shared own k r (λ e. omega (arith, e, at, lt)) i ∷ miss_all shared own (r.uid + 1) high k rows (omega (arith, at, lt)) h.1 i

above_stay : (shared own l low high : ℕ) (marks : List FlagUpdate) (rows : List Row) → Rises l low (mark_uids marks) → Rises low high (row_uids rows) → marked_all shared own marks rows ≡ rows
above_stay shared own l low high [] rows ms h = refl
above_stay shared own l low high (k ∷ marks) rows ms h =
    let below : k.uid + 1 ≤ low = rises_end (k.uid + 1) low (mark_uids marks) ms.1 in
    ap (marked_all (shared + one_if (is_some k.flags)) (own_after own k.seen) marks) (miss_all shared own low high k rows (omega (arith, below)) h)
    ∙ above_stay (shared + one_if (is_some k.flags)) (own_after own k.seen) (k.uid + 1) low high marks rows ms.1 h

front_stays : (shared own l high : ℕ) (marks : List FlagUpdate) (r : Row) (rows : List Row) → r.uid < l → Rises l high (mark_uids marks)
    → marked_all shared own marks (r ∷ rows) ≡ r ∷ marked_all shared own marks rows
front_stays shared own l high [] r rows lt ms = refl
front_stays shared own l high (k ∷ marks) r rows lt ms =
    let at : l ≤ k.uid = ms.0 in
    ap (λ x. marked_all (shared + one_if (is_some k.flags)) (own_after own k.seen) marks (x ∷ map (mark_at shared own k) rows)) (miss shared own k r (λ e. omega (arith, e, at, lt)))
    ∙ front_stays (shared + one_if (is_some k.flags)) (own_after own k.seen) (k.uid + 1) high marks r (map (mark_at shared own k) rows) (omega (arith, at, lt)) ms.1

marked_append : (shared own : ℕ) (marks : List FlagUpdate) (a b : List Row) → marked_all shared own marks (a ++ b) ≡ marked_all shared own marks a ++ marked_all shared own marks b
marked_append shared own [] a b = refl
marked_append shared own (k ∷ marks) a b =
    ap (marked_all (shared + one_if (is_some k.flags)) (own_after own k.seen) marks) (map_append (mark_at shared own k) a b)
    ∙ marked_append (shared + one_if (is_some k.flags)) (own_after own k.seen) marks (map (mark_at shared own k) a) (map (mark_at shared own k) b)

marked_none : (shared own : ℕ) (marks : List FlagUpdate) → marked_all shared own marks [] ≡ []
marked_none shared own [] = refl
marked_none shared own (k ∷ marks) = marked_none (shared + one_if (is_some k.flags)) (own_after own k.seen) marks

-- the walk along rows and marks
along : (shared own l low high : ℕ) (marks : List FlagUpdate) (rows : List Row) → l ≤ high → Rises low high (row_uids rows) → are_known l (mark_uids marks) (row_uids rows) ≡ true
    → marked_all shared own marks rows ≡ rows_marked shared own marks rows
along shared own l low high [] rows le h e = refl
along shared own l low high (k ∷ marks) [] le h e = marked_none shared own (k ∷ marks)
along shared own l low high (k ∷ marks) (r ∷ rows) le h e =
    by (eqb k.uid r.uid) refl
    (along (shared + one_if (is_some k.flags)) (own_after own k.seen) (k.uid + 1) (r.uid + 1) high marks rows)
    (along shared own k.uid (r.uid + 1) high (k ∷ marks) rows)
  where
    us : List ℕ
    us = row_uids rows

    first : (nat_le l k.uid ≡ true) × (is_among k.uid (r.uid ∷ us) && are_known (k.uid + 1) (mark_uids marks) (r.uid ∷ us) ≡ true)
    first = and_parts (nat_le l k.uid) (is_among k.uid (r.uid ∷ us) && are_known (k.uid + 1) (mark_uids marks) (r.uid ∷ us)) e

    rest : (is_among k.uid (r.uid ∷ us) ≡ true) × (are_known (k.uid + 1) (mark_uids marks) (r.uid ∷ us) ≡ true)
    rest = and_parts (is_among k.uid (r.uid ∷ us)) (are_known (k.uid + 1) (mark_uids marks) (r.uid ∷ us)) first.1

    all : Rises l high (k.uid ∷ mark_uids marks)
    all = known_within l low high (k.uid ∷ mark_uids marks) (r.uid ∷ us) le h e

    last : k.uid + 1 ≤ high
    last = rises_end (k.uid + 1) high (mark_uids marks) all.1

    new : Row
    new = row_marked shared own k r

    by : (b : Bool) → eqb k.uid r.uid ≡ b
        → (k.uid + 1 ≤ high → Rises (r.uid + 1) high us → are_known (k.uid + 1) (mark_uids marks) us ≡ true
        → marked_all (shared + one_if (is_some k.flags)) (own_after own k.seen) marks rows ≡ rows_marked (shared + one_if (is_some k.flags)) (own_after own k.seen) marks rows)
        → (k.uid ≤ high → Rises (r.uid + 1) high us → are_known k.uid (mark_uids (k ∷ marks)) us ≡ true → marked_all shared own (k ∷ marks) rows ≡ rows_marked shared own (k ∷ marks) rows)
        → marked_all shared own (k ∷ marks) (r ∷ rows)
        ≡ cond b (new ∷ rows_marked (shared + one_if (is_some k.flags)) (own_after own k.seen) marks rows) (r ∷ rows_marked shared own (k ∷ marks) rows)
    by true same there gone =
        let is : k.uid ≡ r.uid = eqb-true k.uid r.uid same in
        (λ i. marked_all (shared + one_if (is_some k.flags)) (own_after own k.seen) marks
        (cond (eq-eqb r.uid k.uid (sym is) i) new r ∷ miss_all shared own (r.uid + 1) high k rows (omega (arith, is)) h.1 i))
        ∙ front_stays (shared + one_if (is_some k.flags)) (own_after own k.seen) (k.uid + 1) high marks new rows (omega (arith, is, uid_marked shared own k r)) all.1
        ∙ ap (λ rs. new ∷ rs) (there last h.1 (known_drop (k.uid + 1) r.uid (mark_uids marks) us (omega (arith, is)) rest.1))
    by false other there gone =
        let among : is_among k.uid us ≡ true = ap (λ b. b || is_among k.uid us) (sym (turned r.uid k.uid ∙ other)) ∙ rest.0 in
        let above = among_given (r.uid + 1) high k.uid us h.1 among in
        front_stays shared own k.uid high (k ∷ marks) r rows (omega (arith, above.0)) (omega arith, all.1)
        ∙ ap (λ rs. r ∷ rs) (gone (omega (arith, above.1)) h.1
        (and_from (nat_le k.uid k.uid) (is_among k.uid us && are_known (k.uid + 1) (mark_uids marks) us) (le-leb k.uid k.uid (omega arith))
        (and_from (is_among k.uid us) (are_known (k.uid + 1) (mark_uids marks) us) among
        (known_drop (k.uid + 1) r.uid (mark_uids marks) us (omega (arith, above.0)) rest.1))))

-- ---- marks, one after the other

abbrev put_at : ℕ → (Row → Row) → Row → Row
put_at uid g r = cond (eqb r.uid uid) (g r) r

put_same : (uid : ℕ) (rows : List Row) → map (put_at uid (λ r. r)) rows ≡ rows
put_same uid [] = refl
put_same uid (r ∷ rows) = λ i. by (eqb r.uid uid) i ∷ put_same uid rows i
  where
    by : (b : Bool) → cond b r r ≡ r
    by true = refl
    by false = refl

put_twice : (uid : ℕ) (g h : Row → Row) → ((r : Row) → (g r).uid ≡ r.uid) → (rows : List Row) → map (put_at uid h) (map (put_at uid g) rows) ≡ map (put_at uid (λ r. h (g r))) rows
put_twice uid g h same [] = refl
put_twice uid g h same (r ∷ rows) = λ i. by (eqb r.uid uid) refl i ∷ put_twice uid g h same rows i
  where
    by : (b : Bool) → eqb r.uid uid ≡ b → cond (eqb (cond b (g r) r).uid uid) (h (cond b (g r) r)) (cond b (g r) r) ≡ cond b (h (g r)) r
    by true e = ap (λ z. cond z (h (g r)) (g r)) (ap (λ u. eqb u uid) (same r) ∙ e)
    by false e = ap (λ z. cond z (h r) r) e

uids_put : (uid : ℕ) (g : Row → Row) → ((r : Row) → (g r).uid ≡ r.uid) → (rows : List Row) → row_uids (map (put_at uid g) rows) ≡ row_uids rows
uids_put uid g same [] = refl
uids_put uid g same (r ∷ rows) = λ i. by (eqb r.uid uid) i ∷ uids_put uid g same rows i
  where
    by : (b : Bool) → (cond b (g r) r).uid ≡ r.uid
    by true = same r
    by false = refl

record IsPut (d : Content) (uid : ℕ) (g : Row → Row) (shared own : ℕ) (e : Content) : Type 0 where
  pub rows : e.rows ≡ map (put_at uid g) d.rows
  pub shared_is : e.shared ≡ shared
  pub own_is : e.own ≡ own

flags_put : (uid : ℕ) (o : Option SharedFlags) (d : Content) → is_among uid (row_uids d.rows) ≡ true
    → IsPut d uid (row_with_flags (number_after d.shared d.own) o) (d.shared + one_if (is_some o)) d.own (flags_seen uid o d)
flags_put uid None d among = record { rows = sym (put_same uid d.rows); shared_is = omega arith; own_is = refl }
flags_put uid (Some flags) d among =
    subst (λ z. IsPut d uid (row_with_flags (number_after d.shared d.own) (Some flags)) (d.shared + 1) d.own (cond z (content_after (FlagsSet uid flags) d) d)) (sym among)
    (record { rows = refl; shared_is = refl; own_is = refl })

seen_put : (uid : ℕ) (o : Option Bool) (d : Content) → is_among uid (row_uids d.rows) ≡ true
    → IsPut d uid (row_with_seen d.own (number_after d.shared d.own) o) d.shared (own_after d.own o) (seen_seen uid o d)
seen_put uid None d among = record { rows = sym (put_same uid d.rows); shared_is = refl; own_is = refl }
seen_put uid (Some seen) d among = by (nat_lt d.own max_events)
  where
    by : (x : Bool) → IsPut d uid (λ r. cond x (record { uid = r.uid; date = r.date; octets = r.octets; flags = r.flags; seen = seen; number = number_after d.shared d.own }) r) d.shared (cond x (d.own + 1) d.own)
        (cond x (if_shown uid (content_with_seen uid seen d) d) d)
    by false = record { rows = sym (put_same uid d.rows); shared_is = refl; own_is = refl }
    by true = subst (λ z. IsPut d uid (λ r. record { uid = r.uid; date = r.date; octets = r.octets; flags = r.flags; seen = seen; number = number_after d.shared d.own }) d.shared (d.own + 1) (cond z (content_with_seen uid seen d) d)) (sym among)
        (record { rows = refl; shared_is = refl; own_is = refl })

mark_put : (k : FlagUpdate) (d : Content) → is_among k.uid (row_uids d.rows) ≡ true
    → IsPut d k.uid (row_marked d.shared d.own k) (d.shared + one_if (is_some k.flags)) (own_after d.own k.seen) (mark_seen k d)
mark_put k d among =
    let between : Content = flags_seen k.uid k.flags d in
    let flag : Row → Row = row_with_flags (number_after d.shared d.own) k.flags in
    let one = flags_put k.uid k.flags d among in
    let two = seen_put k.uid k.seen between (ap (is_among k.uid) (ap row_uids one.rows ∙ uids_put k.uid flag (uid_flagged (number_after d.shared d.own) k.flags) d.rows) ∙ among) in
    record {
      rows = two.rows
          ∙ (λ i. map (put_at k.uid (row_with_seen (one.own_is i) (number_after (one.shared_is i) (one.own_is i)) k.seen)) (one.rows i))
          ∙ put_twice k.uid flag (row_with_seen d.own (number_after (d.shared + one_if (is_some k.flags)) d.own) k.seen) (uid_flagged (number_after d.shared d.own) k.flags) d.rows;
      shared_is = two.shared_is ∙ one.shared_is;
      own_is = two.own_is ∙ ap (λ n. own_after n k.seen) one.own_is;
    }

marks_are : (l : ℕ) (marks : List FlagUpdate) (d : Content) → are_known l (mark_uids marks) (row_uids d.rows) ≡ true → (marks_seen marks d).rows ≡ marked_all d.shared d.own marks d.rows
marks_are l [] d e = refl
marks_are l (k ∷ marks) d e =
    let us = row_uids d.rows in
    let first = and_parts (nat_le l k.uid) (is_among k.uid us && are_known (k.uid + 1) (mark_uids marks) us) e in
    let rest = and_parts (is_among k.uid us) (are_known (k.uid + 1) (mark_uids marks) us) first.1 in
    let one = mark_put k d rest.0 in
    marks_are (k.uid + 1) marks (mark_seen k d)
    (ap (are_known (k.uid + 1) (mark_uids marks)) (ap row_uids one.rows ∙ uids_put k.uid (row_marked d.shared d.own k) (uid_marked d.shared d.own k) d.rows) ∙ rest.1)
    ∙ λ i. marked_all (one.shared_is i) (one.own_is i) marks (one.rows i)

-- ---- what is expunged

left_append : (uids : List ℕ) (a b : List Row) → rows_left uids (a ++ b) ≡ rows_left uids a ++ rows_left uids b
left_append uids [] b = refl
left_append uids (r ∷ a) b = by (not (is_among r.uid uids)) (left_append uids a b)
  where
    by : (x : Bool) → rows_left uids (a ++ b) ≡ rows_left uids a ++ rows_left uids b
        → cond x (r ∷ rows_left uids (a ++ b)) (rows_left uids (a ++ b)) ≡ cond x (r ∷ rows_left uids a) (rows_left uids a) ++ rows_left uids b
    by true e = ap (λ rs. r ∷ rs) e
    by false e = e

left_none : (rows : List Row) → rows_left [] rows ≡ rows
left_none [] = refl
left_none (r ∷ rows) = ap (λ rs. r ∷ rs) (left_none rows)

-- rows above all that are expunged stay
left_all : (l low high : ℕ) (uids : List ℕ) (rows : List Row) → Rises l low uids → Rises low high (row_uids rows) → rows_left uids rows ≡ rows
left_all l low high uids [] ms h = refl
left_all l low high uids (r ∷ rows) ms h =
    let at : low ≤ r.uid = h.0 in
    ap (λ b. cond (not b) (r ∷ rows_left uids rows) (rows_left uids rows)) (none (is_among r.uid uids) refl)
    ∙ ap (λ rs. r ∷ rs) (left_all l (r.uid + 1) high uids rows (rises_upper l low (r.uid + 1) uids (omega (arith, at)) ms) h.1)
  where
    none : (b : Bool) → is_among r.uid uids ≡ b → b ≡ false
    none true e = let within = among_given l low r.uid uids ms e in let at : low ≤ r.uid = h.0 in absurd (omega (arith, within.1, at))
    none false e = refl

one_left : (uid : ℕ) (uids : List ℕ) (rows : List Row) → rows_left uids (filter (λ r. not (eqb r.uid uid)) rows) ≡ rows_left (uid ∷ uids) rows
one_left uid uids [] = refl
one_left uid uids (r ∷ rows) =
    by (eqb r.uid uid) (one_left uid uids rows)
    ∙ ap (λ b. cond (not (b || is_among r.uid uids)) (r ∷ rows_left (uid ∷ uids) rows) (rows_left (uid ∷ uids) rows)) (turned r.uid uid)
  where
    by : (b : Bool) → rows_left uids (filter (λ r. not (eqb r.uid uid)) rows) ≡ rows_left (uid ∷ uids) rows
        → rows_left uids (cond (not b) (r ∷ filter (λ r. not (eqb r.uid uid)) rows) (filter (λ r. not (eqb r.uid uid)) rows))
        ≡ cond (not (b || is_among r.uid uids)) (r ∷ rows_left (uid ∷ uids) rows) (rows_left (uid ∷ uids) rows)
    by true rest = rest
    by false rest = λ i. cond (not (is_among r.uid uids)) (r ∷ rest i) (rest i)

no_row : (uid : ℕ) (rows : List Row) → is_among uid (row_uids rows) ≡ false → filter (λ (r : Row). not (eqb r.uid uid)) rows ≡ rows
no_row uid [] e = refl
no_row uid (r ∷ rows) e = by (eqb r.uid uid) e (no_row uid rows)
  where
    by : (b : Bool) → b || is_among uid (row_uids rows) ≡ false → (is_among uid (row_uids rows) ≡ false → filter (λ (r : Row). not (eqb r.uid uid)) rows ≡ rows)
        → cond (not b) (r ∷ filter (λ (r : Row). not (eqb r.uid uid)) rows) (filter (λ (r : Row). not (eqb r.uid uid)) rows) ≡ r ∷ rows
    by true e rest = absurd (cc e)
    by false e rest = ap (λ rs. r ∷ rs) (rest e)

one_gone : (uid : ℕ) (c : Content) → (content_without uid c).rows ≡ filter (λ (r : Row). not (eqb r.uid uid)) c.rows
one_gone uid c = by (is_among uid (row_uids c.rows)) refl
  where
    by : (b : Bool) → is_among uid (row_uids c.rows) ≡ b → (cond b (content_after (Expunged uid) c) c).rows ≡ filter (λ (r : Row). not (eqb r.uid uid)) c.rows
    by true e = refl
    by false e = sym (no_row uid c.rows e)

gone_are : (uids : List ℕ) (c : Content) → (content_expunged uids c).rows ≡ rows_left uids c.rows
gone_are [] c = sym (left_none c.rows)
gone_are (uid ∷ uids) c = gone_are uids (content_without uid c) ∙ ap (rows_left uids) (one_gone uid c) ∙ one_left uid uids c.rows

-- ---- all of it

module _ (b : Batch) (c : Content) (h : Rises first_uid c.next (row_uids c.rows))
    (marks : are_known 0 (mark_uids b.marks) (row_uids c.rows) ≡ true) (expunged : are_known 0 b.expunged (row_uids c.rows) ≡ true) where
  abbrev new : List Row
  new = rows_added c.next c.shared c.own b.added

  abbrev shared : ℕ
  shared = c.shared + length b.added

  abbrev own : ℕ
  own = own_after_all c.own b.added

  abbrev added : Content
  added = added_seen b.added c

  rises : Rises c.next (c.next + length b.added) (row_uids new)
  rises = new_rise c.next c.shared c.own b.added

  within : (uids : List ℕ) → are_known 0 uids (row_uids c.rows) ≡ true → Rises 0 c.next uids
  within uids e = known_within 0 first_uid c.next uids (row_uids c.rows) (omega arith) h e

  is_marked : (marks_seen b.marks added).rows ≡ rows_marked shared own b.marks c.rows ++ new
  is_marked =
      let one = added_are b.added c h in
      marks_are 0 b.marks added (ap (are_known 0 (mark_uids b.marks)) (ap row_uids one.rows ∙ uids_append c.rows new) ∙ known_append 0 (mark_uids b.marks) (row_uids c.rows) (row_uids new) marks)
      ∙ (λ i. marked_all (one.shared i) (one.own_is i) b.marks (one.rows i))
      ∙ marked_append shared own b.marks c.rows new
      ∙ λ i. along shared own 0 first_uid c.next b.marks c.rows (omega arith) h marks i
      ++ above_stay shared own 0 c.next (c.next + length b.added) b.marks new (within (mark_uids b.marks) marks) rises i

  pub is_planned : (content_batched b c).rows ≡ rows_left b.expunged (rows_marked shared own b.marks c.rows) ++ new
  is_planned =
      gone_are b.expunged (marks_seen b.marks added) ∙ ap (rows_left b.expunged) is_marked
      ∙ left_append b.expunged (rows_marked shared own b.marks c.rows) new
      ∙ ap (λ rs. rows_left b.expunged (rows_marked shared own b.marks c.rows) ++ rs)
      (left_all 0 c.next (c.next + length b.added) b.expunged new (within b.expunged expunged) rises)

pub planned_of : (b : Batch) (s : Summary) → has_messages b s ≡ true → IsKept s → rows_planned (write_of b s) (rows_of s b.user) ≡ rows_of (with_batch b s) b.user
planned_of b s messages kept =
    let known = and_parts (are_known 0 (mark_uids b.marks) (uids_in s.messages)) (are_known 0 b.expunged (uids_in s.messages)) messages in
    let same = uids_lent (own_at s.own b.user) s.messages in
    sym (is_planned b (content_of b.user s) (shown_is_ordered s b.user kept).uids
    (ap (are_known 0 (mark_uids b.marks)) (sym same) ∙ known.0) (ap (are_known 0 b.expunged) (sym same) ∙ known.1))
    ∙ sym (ap (λ (d : Content). d.rows) (shows_batch b s kept.sound))

pub batch_is_planned : BatchIsPlanned
batch_is_planned s w may kept =
    subst (λ (x : BatchWrite). rows_planned x (rows_of s w.batch.user) ≡ rows_of (with_batch w.batch s) w.batch.user) (sym may.current)
    (planned_of w.batch s may.messages kept)

-- ---- what the code counts

pub own_counted : (count : ℕ) (ms : List NewMessage) → count ≤ max_events → own_after_all count ms ≡ min (count + added_seen_count ms) max_events
own_counted count [] le = omega (arith, le)
own_counted count (m ∷ ms) le = by m.seen (λ n. own_counted n ms)
  where
    left : (x : Bool) → nat_lt count max_events ≡ x → ((n : ℕ) → n ≤ max_events → own_after_all n ms ≡ min (n + added_seen_count ms) max_events)
        → own_after_all (cond x (count + 1) count) ms ≡ min (count + (1 + added_seen_count ms)) max_events
    left true lt rest =
        let less = ltb-true count max_events lt in
        rest (count + 1) (omega (arith, less)) ∙ (let z : min (count + 1 + added_seen_count ms) max_events ≡ min (count + (1 + added_seen_count ms)) max_events = omega arith in z)
    left false full rest =
        let most = ltb-false count max_events full in
        rest count le ∙ (let z : min (count + added_seen_count ms) max_events ≡ min (count + (1 + added_seen_count ms)) max_events = omega (arith, most) in z)

    by : (b : Bool) → ((n : ℕ) → n ≤ max_events → own_after_all n ms ≡ min (n + added_seen_count ms) max_events)
        → own_after_all (own_after count (cond b (Some true) None)) ms ≡ min (count + (one_if b + added_seen_count ms)) max_events
    by true rest = left (nat_lt count max_events) refl rest
    by false rest = rest count le ∙ (let z : min (count + added_seen_count ms) max_events ≡ min (count + (0 + added_seen_count ms)) max_events = omega arith in z)

pub none_marked : (x y : ℕ) (ks : List FlagUpdate) → rows_marked x y ks [] ≡ []
none_marked x y [] = refl
none_marked x y (k ∷ ks) = refl
