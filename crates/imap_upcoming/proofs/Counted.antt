-- What is counted of a mailbox once a batch is written.
use Rattle.std.proofs.Common.{◌≡◌, ℕ, suc, ◌+◌, ◌-◌, ◌<◌, ◌≤◌, eqb, not, Bool, true, false, cond, ◌&&◌, ◌||◌, List, [], ◌∷◌, ◌++◌, length, length-append, Option, Some, None, refl, sym, ap, subst, ◌∙◌, true≢false, arith}
use Rattle.std.specs.Prelude.{nat_le, nat_lt, is_some, min}
use Rattle.std.proofs.lemmas.Bool.{and_parts, and_from, eqb-true, ne_eqb}
use Rattle.std.proofs.lemmas.List.{length-map, length-take}
use Rattle.imap_modseq.specs.Numbers.{max_events, number_after}
use Rattle.imap_mailbox.proofs.Accounts.{turned}
use Rattle.imap_mailbox.proofs.BroughtUp.{shown_is_ordered}
use Rattle.imap_mailbox.proofs.Lending.{uids_lent}
use Rattle.imap_mailbox.specs.declared.flags.SharedFlags.{SharedFlags}
use Rattle.imap_mailbox.specs.Held.{IsKept}
use Rattle.imap_mailbox.specs.declared.own.SeenChange.{SeenChange}
use Rattle.imap_mailbox.specs.Own.{Own, own_at, with_change, with_changes}
use Rattle.imap_mailbox.specs.Lent.{row_uids}
use Rattle.imap_mailbox.specs.Rows.{Row, first_uid, is_among}
use Rattle.imap_mailbox.specs.Summary.{Rises, Summary, row_in, rows_of, uids_in}
use Rattle.imap_batch.proofs.Entering.{writes_are_entered}
use Rattle.imap_batch.proofs.Known.{known_drop}
use Rattle.imap_batch.proofs.Planning.{planned_of}
use Rattle.imap_batch.proofs.Steps.{among_given, known_rise}
use Rattle.imap_batch.specs.Batch.{added_seen_count, are_known, has_messages, mark_seen_count, mark_uids, one_if, own_added, own_change, own_marked}
use Rattle.imap_batch.specs.declared.batch.Batch.{Batch}
use Rattle.imap_batch.specs.declared.batch.FlagUpdate.{FlagUpdate}
use Rattle.imap_batch.specs.declared.batch.NewMessage.{NewMessage}
use Rattle.imap_batch.specs.declared.write.BatchWrite.{BatchWrite}
use Rattle.imap_batch.specs.Entered.{own_changes}
use Rattle.imap_batch.specs.Planned.{own_after, own_after_all, row_marked, row_with_flags, row_with_seen, rows_added, rows_left, rows_marked, seen_added}
use Rattle.imap_batch.specs.Written.{MayWrite, with_batch}

-- ---- own changes

added_own : (uid place : ℕ) (added : List NewMessage) → length (own_added uid place added) ≡ added_seen_count added
added_own uid place [] = refl
added_own uid place (m ∷ added) = by m.seen (added_own (uid + 1) (place + 1) added)
  where
    by : (b : Bool) → length (own_added (uid + 1) (place + 1) added) ≡ added_seen_count added
        → length (cond b (record { before = place + 1; uid = uid; seen = true } ∷ []) [] ++ own_added (uid + 1) (place + 1) added) ≡ one_if b + added_seen_count added
    by true rest = omega (arith, rest)
    by false rest = omega (arith, rest)

marked_own : (place : ℕ) (marks : List FlagUpdate) → length (own_marked place marks) ≡ mark_seen_count marks
marked_own place [] = refl
marked_own place (k ∷ marks) = by k.seen (marked_own (place + one_if (is_some k.flags)) marks)
  where
    by : (o : Option Bool) → length (own_marked (place + one_if (is_some k.flags)) marks) ≡ mark_seen_count marks
        → length (own_change (place + one_if (is_some k.flags)) k.uid o ++ own_marked (place + one_if (is_some k.flags)) marks) ≡ one_if (is_some o) + mark_seen_count marks
    by None rest = omega (arith, rest)
    by (Some seen) rest = omega (arith, rest)

length-changes : (changes : List SeenChange) (own : Own) → length (with_changes changes own).befores ≡ length own.befores + length changes
length-changes [] own = omega arith
length-changes (s ∷ changes) own = omega (arith, length-changes changes (with_change s own), length-append own.befores (s.before ∷ []))

module _ (w : BatchWrite) (s : Summary) (may : MayWrite w s) where
  pub own_counted : length (own_at s.own w.batch.user).befores ≤ max_events
      → length (own_at (with_batch w.batch s).own w.batch.user).befores ≡ min (length (own_at s.own w.batch.user).befores + (added_seen_count w.batch.added + mark_seen_count w.batch.marks)) max_events
  own_counted few =
      let before = own_at s.own w.batch.user in
      let added = own_added w.first_uid w.first_place w.batch.added in
      let marked = own_marked (w.first_place + length w.batch.added) w.batch.marks in
      let is = ap (λ (o : Own). length o.befores) (writes_are_entered s w may).own in
      let joined = length-changes (own_changes w) before in
      let taken = length-take (max_events - w.own_before) (added ++ marked) in
      let both = length-append added marked in
      let start : w.own_before ≡ length before.befores = ap (λ (x : BatchWrite). x.own_before) may.current in
      omega (arith, few, is, joined, taken, both, start, added_own w.first_uid w.first_place w.batch.added, marked_own (w.first_place + length w.batch.added) w.batch.marks)

-- ---- rows

uid_flagged : (n : ℕ) (o : Option SharedFlags) (r : Row) → (row_with_flags n o r).uid ≡ r.uid
uid_flagged n None r = refl
uid_flagged n (Some flags) r = refl

uid_seen : (own n : ℕ) (o : Option Bool) (r : Row) → (row_with_seen own n o r).uid ≡ r.uid
uid_seen own n None r = refl
uid_seen own n (Some seen) r = by (nat_lt own max_events)
  where
    by : (b : Bool) → (cond b (record { uid = r.uid; date = r.date; octets = r.octets; flags = r.flags; seen = seen; number = n }) r).uid ≡ r.uid
    by true = refl
    by false = refl

uid_marked : (shared own : ℕ) (k : FlagUpdate) (r : Row) → (row_marked shared own k r).uid ≡ r.uid
uid_marked shared own k r =
    uid_seen own (number_after (shared + one_if (is_some k.flags)) own) k.seen (row_with_flags (number_after shared own) k.flags r) ∙ uid_flagged (number_after shared own) k.flags r

-- marks change no UID
marked_uids : (shared own : ℕ) (marks : List FlagUpdate) (rows : List Row) → row_uids (rows_marked shared own marks rows) ≡ row_uids rows
marked_uids shared own [] rows = refl
marked_uids shared own (k ∷ marks) [] = refl
marked_uids shared own (k ∷ marks) (r ∷ rows) =
    by (eqb k.uid r.uid) (marked_uids (shared + one_if (is_some k.flags)) (own_after own k.seen) marks rows) (marked_uids shared own (k ∷ marks) rows)
  where
    by : (b : Bool) → row_uids (rows_marked (shared + one_if (is_some k.flags)) (own_after own k.seen) marks rows) ≡ row_uids rows → row_uids (rows_marked shared own (k ∷ marks) rows) ≡ row_uids rows
        → row_uids (cond b (row_marked shared own k r ∷ rows_marked (shared + one_if (is_some k.flags)) (own_after own k.seen) marks rows) (r ∷ rows_marked shared own (k ∷ marks) rows)) ≡ r.uid ∷ row_uids rows
    by true there gone = λ i. uid_marked shared own k r i ∷ there i
    by false there gone = ap (λ us. r.uid ∷ us) gone

new_rows : (uid shared own : ℕ) (added : List NewMessage) → length (rows_added uid shared own added) ≡ length added
new_rows uid shared own [] = refl
new_rows uid shared own (m ∷ added) = ap (λ n. suc n) (new_rows (uid + 1) (shared + 1) (own_after own (seen_added m)) added)

all_left : (rows : List Row) → length (rows_left [] rows) ≡ length rows
all_left [] = refl
all_left (r ∷ rows) = ap (λ n. suc n) (all_left rows)

-- a UID below those of all rows
above_left : (uid low high : ℕ) (uids : List ℕ) (rows : List Row) → uid < low → Rises low high (row_uids rows) → rows_left (uid ∷ uids) rows ≡ rows_left uids rows
above_left uid low high uids [] lt h = refl
above_left uid low high uids (r ∷ rows) lt h =
    let at : low ≤ r.uid = h.0 in
    λ i. cond (not (ne_eqb uid r.uid (λ e. omega (arith, e, at, lt)) i || is_among r.uid uids))
    (r ∷ above_left uid (r.uid + 1) high uids rows (omega (arith, at, lt)) h.1 i) (above_left uid (r.uid + 1) high uids rows (omega (arith, at, lt)) h.1 i)

-- each UID that is known is that of one row
left_counted : (l low high : ℕ) (uids : List ℕ) (rows : List Row) → Rises low high (row_uids rows) → are_known l uids (row_uids rows) ≡ true → length (rows_left uids rows) + length uids ≡ length rows
left_counted l low high [] rows h e = omega (arith, all_left rows)
left_counted l low high (uid ∷ uids) [] h e =
    absurd (true≢false (sym (and_parts (is_among uid []) (are_known (uid + 1) uids []) (and_parts (nat_le l uid) (is_among uid [] && are_known (uid + 1) uids []) e).1).0))
left_counted l low high (uid ∷ uids) (r ∷ rows) h e =
    by (eqb uid r.uid) refl (left_counted (uid + 1) (r.uid + 1) high uids rows h.1) (left_counted l (r.uid + 1) high (uid ∷ uids) rows h.1)
  where
    us : List ℕ
    us = row_uids rows

    first : (nat_le l uid ≡ true) × (is_among uid (r.uid ∷ us) && are_known (uid + 1) uids (r.uid ∷ us) ≡ true)
    first = and_parts (nat_le l uid) (is_among uid (r.uid ∷ us) && are_known (uid + 1) uids (r.uid ∷ us)) e

    rest : (is_among uid (r.uid ∷ us) ≡ true) × (are_known (uid + 1) uids (r.uid ∷ us) ≡ true)
    rest = and_parts (is_among uid (r.uid ∷ us)) (are_known (uid + 1) uids (r.uid ∷ us)) first.1

    not_later : r.uid < uid → (b : Bool) → is_among r.uid uids ≡ b → b ≡ false
    not_later lt false is = refl
    not_later lt true is =
        let rise = known_rise (uid + 1) uids (r.uid ∷ us) rest.1 in
        absurd (omega (arith, lt, (among_given (uid + 1) rise.0 r.uid uids rise.1 is).0))

    by : (b : Bool) → eqb uid r.uid ≡ b
        → (are_known (uid + 1) uids us ≡ true → length (rows_left uids rows) + length uids ≡ length rows)
        → (are_known l (uid ∷ uids) us ≡ true → length (rows_left (uid ∷ uids) rows) + length (uid ∷ uids) ≡ length rows)
        → length (cond (not (b || is_among r.uid uids)) (r ∷ rows_left (uid ∷ uids) rows) (rows_left (uid ∷ uids) rows)) + length (uid ∷ uids) ≡ length (r ∷ rows)
    by true same there gone =
        let is : uid ≡ r.uid = eqb-true uid r.uid same in
        let left = there (known_drop (uid + 1) r.uid uids us (omega (arith, is)) rest.1) in
        omega (arith, left, ap length (above_left uid (r.uid + 1) high uids rows (omega (arith, is)) h.1))
    by false other there gone =
        let among : is_among uid us ≡ true = ap (λ b. b || is_among uid us) (sym (turned r.uid uid ∙ other)) ∙ rest.0 in
        let above = among_given (r.uid + 1) high uid us h.1 among in
        let left = gone (and_from (nat_le l uid) (is_among uid us && are_known (uid + 1) uids us) first.0
        (and_from (is_among uid us) (are_known (uid + 1) uids us) among (known_drop (uid + 1) r.uid uids us (omega (arith, above.0)) rest.1))) in
        ap (λ b. length (cond (not b) (r ∷ rows_left (uid ∷ uids) rows) (rows_left (uid ∷ uids) rows)) + length (uid ∷ uids)) (not_later (omega (arith, above.0)) (is_among r.uid uids) refl)
        ∙ (let z : length (r ∷ rows_left (uid ∷ uids) rows) + length (uid ∷ uids) ≡ length (r ∷ rows) = omega (arith, left) in z)

pub len_counted : (b : Batch) (s : Summary) → has_messages b s ≡ true → IsKept s → length (with_batch b s).messages + length b.expunged ≡ length s.messages + length b.added
len_counted b s messages kept =
    let known = and_parts (are_known 0 (mark_uids b.marks) (uids_in s.messages)) (are_known 0 b.expunged (uids_in s.messages)) messages in
    let rows = rows_of s b.user in
    let marked = rows_marked (s.shared + length b.added) (own_after_all (length (own_at s.own b.user).befores) b.added) b.marks rows in
    let new = rows_added s.next s.shared (length (own_at s.own b.user).befores) b.added in
    let uids : row_uids marked ≡ row_uids rows = marked_uids (s.shared + length b.added) (own_after_all (length (own_at s.own b.user).befores) b.added) b.marks rows in
    let left = left_counted 0 first_uid s.next b.expunged marked
    (subst (Rises first_uid s.next) (sym uids) (shown_is_ordered s b.user kept).uids)
    (ap (are_known 0 b.expunged) (uids ∙ sym (uids_lent (own_at s.own b.user) s.messages)) ∙ known.1) in
    let planned = ap length (planned_of b s messages kept) in
    let joined = length-append (rows_left b.expunged marked) new in
    let after = length-map (with_batch b s).messages (row_in (own_at (with_batch b s).own b.user)) in
    let before = length-map s.messages (row_in (own_at s.own b.user)) in
    let same = ap length uids in
    omega (arith, left, planned, joined, after, before, same, length-map marked (λ (r : Row). r.uid), length-map rows (λ (r : Row). r.uid), new_rows s.next s.shared (length (own_at s.own b.user).befores) b.added)
