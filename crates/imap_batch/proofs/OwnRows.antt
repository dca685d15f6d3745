-- The rows of a user's own changes after a batch.
use Rattle.std.proofs.Common.{◌≡◌, ◌⊎◌, inl, inr, ⊎_elim, ℕ, zero, suc, ◌+◌, ◌-◌, ◌<◌, ◌≤◌, eqb, Bool, true, false, cond, not, ◌&&◌, ◌||◌, List, [], ◌∷◌, ◌++◌, append_assoc, append-nil, length, take, get_or, map, replicate, Option, Some, None, is_some, refl, sym, ap, subst, ◌∙◌, arith}
use Rattle.std.specs.Prelude.{nat_lt, slice_index}
use Rattle.std.specs.List.{AllByRecursion}
use Rattle.std.specs.Ordering.{nat_cmp}
use Rattle.std.specs.FinMap.{get, empty, get-empty}
use Rattle.std.proofs.lemmas.Bool.{eqb-true, eq-eqb, ltb-true}
use Rattle.std.proofs.lemmas.List.{length-append, length-replicate}
use Rattle.imap_modseq.specs.Merge.{AreInOrder}
use Rattle.imap_modseq.specs.Numbers.{max_events}
use Rattle.imap_mailbox.specs.declared.kept_change.KeptChange.{KeptChange}
use Rattle.imap_mailbox.specs.declared.own.SeenChange.{SeenChange}
use Rattle.imap_mailbox.specs.KeptRows.{AreKept, dropped_for, is_overtaken, may_go, place_if_free, runs_on, without_row}
use Rattle.imap_mailbox.specs.Own.{Own, filled, found_in, numbered, own_at, with_all, with_change, with_changes}
use Rattle.imap_mailbox.specs.Summary.{Summary}
use Rattle.imap_mailbox.proofs.Changes.{changes_are_numbered}
use Rattle.imap_mailbox.proofs.Following.{IsSplit, at_next, found_push, next_of, one_out, split, without_kept}
use Rattle.imap_mailbox.proofs.Found.{any_may_go}
use Rattle.imap_batch.specs.declared.batch.Batch.{Batch}
use Rattle.imap_batch.specs.declared.batch.FlagUpdate.{FlagUpdate}
use Rattle.imap_batch.specs.declared.batch.NewMessage.{NewMessage}
use Rattle.imap_batch.specs.declared.write.BatchWrite.{BatchWrite}
use Rattle.imap_batch.specs.Batch.{dropped_from, dropped_with, event_count, flag_count, one_if, own_added, own_asked, own_change, own_made, own_marked, place_list, write_of}
use Rattle.imap_batch.specs.Entered.{IsEntered, OwnRowsFollow, own_rows, without_rows}
use Rattle.imap_batch.specs.Written.{MayWrite, with_batch}
use Rattle.imap_batch.proofs.Entering.{writes_are_entered}

-- ---- what a batch asks for is in order

abbrev befores_of : List SeenChange → List ℕ
befores_of changes = map (λ s. s.before) changes

order_lower : (low less high : ℕ) (bs : List ℕ) → less ≤ low → AreInOrder low high bs → AreInOrder less high bs
order_lower low less high [] le h = tt
order_lower low less high (b ∷ bs) le h = let first = h.0 in (omega (arith, le, first), h.1, h.2)

order_joined : (low mid high : ℕ) (xs ys : List SeenChange) → low ≤ mid → mid ≤ high → AreInOrder low mid (befores_of xs) → AreInOrder mid high (befores_of ys)
    → AreInOrder low high (befores_of (xs ++ ys))
order_joined low mid high [] ys le more a b = order_lower mid low high (befores_of ys) le b
order_joined low mid high (x ∷ xs) ys le more a b =
    let within : x.before ≤ mid = a.1 in
    (a.0, omega (arith, within, more), order_joined x.before mid high xs ys within more a.2 b)

order_taken : (n low high : ℕ) (xs : List SeenChange) → AreInOrder low high (befores_of xs) → AreInOrder low high (befores_of (take n xs))
order_taken zero low high xs h = tt
order_taken (suc n) low high [] h = tt
order_taken (suc n) low high (x ∷ xs) h = (h.0, h.1, order_taken n x.before high xs h.2)

added_order : (uid place high : ℕ) (added : List NewMessage) → place + length added ≤ high → AreInOrder place high (befores_of (own_added uid place added))
added_order uid place high [] le = tt
added_order uid place high (m ∷ added) le = by m.seen (added_order (uid + 1) (place + 1) high added (omega (arith, le)))
  where
    rest : List SeenChange
    rest = own_added (uid + 1) (place + 1) added

    by : (b : Bool) → AreInOrder (place + 1) high (befores_of rest) → AreInOrder place high (befores_of (cond b (record { before = place + 1; uid = uid; seen = true } ∷ []) [] ++ rest))
    by true h = (omega arith, omega (arith, le), h)
    by false h = order_lower (place + 1) place high (befores_of rest) (omega arith) h

marked_order : (place high : ℕ) (marks : List FlagUpdate) → place + flag_count marks ≤ high → AreInOrder place high (befores_of (own_marked place marks))
marked_order place high [] le = tt
marked_order place high (k ∷ marks) le = by (one_if (is_some k.flags)) k.seen le
    (λ p more. marked_order p high marks more)
  where
    by : (n : ℕ) (o : Option Bool) → place + (n + flag_count marks) ≤ high → ((p : ℕ) → p + flag_count marks ≤ high → AreInOrder p high (befores_of (own_marked p marks)))
        → AreInOrder place high (befores_of (own_change (place + n) k.uid o ++ own_marked (place + n) marks))
    by n None le rest = order_lower (place + n) place high (befores_of (own_marked (place + n) marks)) (omega arith) (rest (place + n) (omega (arith, le)))
    by n (Some seen) le rest = (omega arith, omega (arith, le), rest (place + n) (omega (arith, le)))

asked_order : (uid place high : ℕ) (b : Batch) → place + event_count b ≤ high → AreInOrder place high (befores_of (own_asked uid place b))
asked_order uid place high b le = by (length b.added) (flag_count b.marks) (length b.expunged) refl refl le
  where
    by : (a f e : ℕ) → a ≡ length b.added → f ≡ flag_count b.marks → place + (a + (f + e)) ≤ high → AreInOrder place high (befores_of (own_asked uid place b))
    by a f e ai fi le =
        order_joined place (place + length b.added) high (own_added uid place b.added) (own_marked (place + length b.added) b.marks) (omega arith) (omega (arith, le, ai))
        (added_order uid place (place + length b.added) b.added (omega arith)) (marked_order (place + length b.added) high b.marks (omega (arith, le, ai, fi)))

-- ---- elements of lists

abbrev Has : {X : Type 0} → List X → X → Type 0
Has [] x = ⊥
Has (y ∷ xs) x = (x ≡ y) ⊎ Has xs x

has_left : {X : Type 0} (xs ys : List X) (x : X) → Has xs x → Has (xs ++ ys) x
has_left [] ys x h = absurd h
has_left (y ∷ xs) ys x (inl e) = inl e
has_left (y ∷ xs) ys x (inr h) = inr (has_left xs ys x h)

has_right : {X : Type 0} (xs ys : List X) (x : X) → Has ys x → Has (xs ++ ys) x
has_right [] ys x h = h
has_right (y ∷ xs) ys x h = inr (has_right xs ys x h)

has_middle : {X : Type 0} (xs ys : List X) (x : X) → Has (xs ++ x ∷ ys) x
has_middle [] ys x = inl refl
has_middle (y ∷ xs) ys x = inr (has_middle xs ys x)

-- ---- rows that are in order

kept_lower : (done low less high : ℕ) (rows : List KeptChange) → less ≤ low → AreKept done low high rows → AreKept done less high rows
kept_lower done low less high [] le h = tt
kept_lower done low less high (k ∷ rows) le h = let after = h.0.after in (record { place = h.0.place; few = h.0.few; after = omega (arith, le, after); within = h.0.within }, h.1)

kept_joined : (rows rest : List KeptChange) (done low high more : ℕ) → AreKept done low high rows → low ≤ high → high ≤ more
    → ((n : ℕ) → n ≡ done + length (filled done rows) → AreKept n high more rest) → AreKept done low more (rows ++ rest)
kept_joined [] rest done low high more h le less then = kept_lower done high low more rest le (then done (omega arith))
kept_joined (k ∷ rows) rest done low high more h le less then =
    let place = h.0.place in
    let within = h.0.within in (
      record { place = h.0.place; few = h.0.few; after = h.0.after; within = omega (arith, within, less) },
      kept_joined rows rest (k.place + 1) k.before high more h.1 within less
          (λ n is. then n (omega (arith, is, place, length-append (replicate (k.place + 1 - done) k.before) (filled (k.place + 1) rows), length-replicate (k.place + 1 - done) k.before))),
    )

kept_front : (rows rest : List KeptChange) (done low high : ℕ) → AreKept done low high (rows ++ rest) → AreKept done low high rows
kept_front [] rest done low high h = tt
kept_front (k ∷ rows) rest done low high h = (h.0, kept_front rows rest (k.place + 1) k.before high h.1)

place_low : (rows : List KeptChange) (done low high : ℕ) → AreKept done low high rows → (k : KeptChange) → Has rows k → k.place < done + length (filled done rows)
place_low [] done low high h k none = absurd none
place_low (r ∷ rows) done low high h k (inl e) =
    let place = h.0.place in
    let same = ap (λ (x : KeptChange). x.place) e in
    omega (arith, place, same, length-append (replicate (r.place + 1 - done) r.before) (filled (r.place + 1) rows), length-replicate (r.place + 1 - done) r.before)
place_low (r ∷ rows) done low high h k (inr there) =
    let place = h.0.place in
    let rest = place_low rows (r.place + 1) r.before high h.1 k there in
    omega (arith, place, rest, length-append (replicate (r.place + 1 - done) r.before) (filled (r.place + 1) rows), length-replicate (r.place + 1 - done) r.before)

kept_few : (rows : List KeptChange) (done low high : ℕ) → done ≤ max_events → AreKept done low high rows → done + length (filled done rows) ≤ max_events
kept_few [] done low high le h = omega (arith, le)
kept_few (k ∷ rows) done low high le h =
    let place = h.0.place in
    let few = h.0.few in
    let rest = kept_few rows (k.place + 1) k.before high (omega (arith, few)) h.1 in
    omega (arith, rest, place, length-append (replicate (k.place + 1 - done) k.before) (filled (k.place + 1) rows), length-replicate (k.place + 1 - done) k.before)

numbered_kept : (changes : List SeenChange) (place low high : ℕ) → AreInOrder low high (befores_of changes) → place + length changes ≤ max_events → AreKept place low high (numbered place changes)
numbered_kept [] place low high h few = tt
numbered_kept (s ∷ changes) place low high h few = (
  record { place = omega arith; few = omega (arith, few); after = h.0; within = h.1 },
  numbered_kept changes (place + 1) s.before high h.2 (omega (arith, few)),
)

taken_short : (n : ℕ) (xs : List SeenChange) → length (take n xs) ≤ n
taken_short zero xs = omega arith
taken_short (suc n) [] = omega arith
taken_short (suc n) (x ∷ xs) = let rest = taken_short n xs in omega (arith, rest)

-- ---- what goes

-- it is the last change of a message that is changed, and no shared event is between it and the next change
record IsDropped (before : ℕ) (own : Own) (changes : List SeenChange) (place : ℕ) : Type 0 where
  pub change : KeptChange
  pub by : SeenChange
  pub among : Has changes by
  pub last : get own.latest by.uid ≡ Some change
  pub place_is : change.place ≡ place
  pub free : eqb (slice_index (own.befores ++ before ∷ []) (change.place + 1)) change.before ≡ true

all_dropped : (before : ℕ) (own : Own) (changes : List SeenChange) (place : ℕ) → Has (dropped_from before own changes) place → IsDropped before own changes place
all_dropped before own [] place h = absurd h
all_dropped before own (s ∷ changes) place h = by (get own.latest s.uid) refl h (all_dropped before own changes place)
  where
    later : IsDropped before own changes place → IsDropped before own (s ∷ changes) place
    later d = record { change = d.change; by = d.by; among = inr d.among; last = d.last; place_is = d.place_is; free = d.free }

    small : (t : Bool) (k : KeptChange) → get own.latest s.uid ≡ Some k → eqb (slice_index (own.befores ++ before ∷ []) (k.place + 1)) k.before ≡ true
        → Has (cond t (k.place ∷ []) [] ++ dropped_from before own changes) place → (Has (dropped_from before own changes) place → IsDropped before own changes place)
        → IsDropped before own (s ∷ changes) place
    small true k is free (inl e) rest = record { change = k; by = s; among = inl refl; last = is; place_is = sym e; free = free }
    small true k is free (inr h) rest = later (rest h)
    small false k is free h rest = later (rest h)

    then : (t : Bool) (k : KeptChange) → get own.latest s.uid ≡ Some k → eqb (slice_index (own.befores ++ before ∷ []) (k.place + 1)) k.before ≡ t
        → Has (place_list (cond t (Some k.place) None) ++ dropped_from before own changes) place → (Has (dropped_from before own changes) place → IsDropped before own changes place)
        → IsDropped before own (s ∷ changes) place
    then true k is free h rest = small (nat_lt k.place max_events) k is free h rest
    then false k is free h rest = later (rest h)

    by : (o : Option KeptChange) → get own.latest s.uid ≡ o → Has (place_list (place_if_free (own.befores ++ before ∷ []) o) ++ dropped_from before own changes) place
        → (Has (dropped_from before own changes) place → IsDropped before own changes place) → IsDropped before own (s ∷ changes) place
    by None is h rest = later (rest h)
    by (Some k) is h rest = then (eqb (slice_index (own.befores ++ before ∷ []) (k.place + 1)) k.before) k is refl h rest

-- the places are those of events that a user may have
pub dropped_small : (before : ℕ) (own : Own) (changes : List SeenChange) → AllByRecursion (λ (p : ℕ). p < max_events) (dropped_from before own changes)
dropped_small before own [] = tt
dropped_small before own (s ∷ changes) = by (dropped_for s.uid before own) (dropped_small before own changes)
  where
    small : (p : ℕ) (t : Bool) → nat_lt p max_events ≡ t → AllByRecursion (λ (p : ℕ). p < max_events) (dropped_from before own changes)
        → AllByRecursion (λ (p : ℕ). p < max_events) (cond t (p ∷ []) [] ++ dropped_from before own changes)
    small p true e rest = (ltb-true p max_events e, rest)
    small p false e rest = rest

    by : (o : Option ℕ) → AllByRecursion (λ (p : ℕ). p < max_events) (dropped_from before own changes) → AllByRecursion (λ (p : ℕ). p < max_events) (place_list o ++ dropped_from before own changes)
    by None rest = rest
    by (Some p) rest = small p (nat_lt p max_events) refl rest

-- ---- rows by their places

place_high : (rows : List KeptChange) (done low high : ℕ) → AreKept done low high rows → (k : KeptChange) → Has rows k → done ≤ k.place
place_high [] done low high h k none = absurd none
place_high (r ∷ rows) done low high h k (inl e) = let at = h.0.place in let same = ap (λ (x : KeptChange). x.place) e in omega (arith, at, same)
place_high (r ∷ rows) done low high h k (inr there) = let at = h.0.place in let more = place_high rows (r.place + 1) r.before high h.1 k there in omega (arith, at, more)

one_place : (rows : List KeptChange) (done low high : ℕ) → AreKept done low high rows → (x y : KeptChange) → Has rows x → Has rows y → x.place ≡ y.place → x ≡ y
one_place [] done low high h x y none there e = absurd none
one_place (r ∷ rows) done low high h x y (inl e) (inl f) same = e ∙ sym f
one_place (r ∷ rows) done low high h x y (inl e) (inr f) same =
    let more = place_high rows (r.place + 1) r.before high h.1 y f in let at = ap (λ (z : KeptChange). z.place) e in absurd (omega (arith, more, at, same))
one_place (r ∷ rows) done low high h x y (inr e) (inl f) same =
    let more = place_high rows (r.place + 1) r.before high h.1 x e in let at = ap (λ (z : KeptChange). z.place) f in absurd (omega (arith, more, at, same))
one_place (r ∷ rows) done low high h x y (inr e) (inr f) same = one_place rows (r.place + 1) r.before high h.1 x y e f same

-- no row has the place, or one stands there
record StandsIn (rows : List KeptChange) (place : ℕ) : Type 0 where
  pub front : List KeptChange
  pub back : List KeptChange
  pub row : KeptChange
  pub whole : rows ≡ front ++ row ∷ back
  pub at : row.place ≡ place

looked_up : (rows : List KeptChange) (place : ℕ) → (without_row (Some place) rows ≡ rows) ⊎ StandsIn rows place
looked_up [] place = inl refl
looked_up (r ∷ rows) place = by (eqb r.place place) refl (looked_up rows place)
  where
    by : (b : Bool) → eqb r.place place ≡ b → (without_row (Some place) rows ≡ rows) ⊎ StandsIn rows place
        → (cond (not b) (r ∷ without_row (Some place) rows) (without_row (Some place) rows) ≡ r ∷ rows) ⊎ StandsIn (r ∷ rows) place
    by true e rest = inr (record { front = []; back = rows; row = r; whole = refl; at = eqb-true r.place place e })
    by false e (inl same) = inl (ap (λ l. r ∷ l) same)
    by false e (inr s) = inr (record { front = r ∷ s.front; back = s.back; row = s.row; whole = ap (λ l. r ∷ l) s.whole; at = s.at })

has_without : (rows : List KeptChange) (place : ℕ) (k : KeptChange) → Has (without_row (Some place) rows) k → Has rows k
has_without [] place k h = h
has_without (r ∷ rows) place k h = by (not (eqb r.place place)) h (has_without rows place k)
  where
    by : (b : Bool) → Has (cond b (r ∷ without_row (Some place) rows) (without_row (Some place) rows)) k → (Has (without_row (Some place) rows) k → Has rows k) → Has (r ∷ rows) k
    by true (inl e) rest = inl e
    by true (inr h) rest = inr (rest h)
    by false h rest = inr (rest h)

overtaken_by : (later : List KeptChange) (c : KeptChange) (uid : ℕ) → Has later c → c.uid ≡ uid → is_overtaken uid later ≡ true
overtaken_by [] c uid none e = absurd none
overtaken_by (n ∷ later) c uid (inl f) e = ap (λ b. b || is_overtaken uid later) (eq-eqb n.uid uid (sym (ap (λ (k : KeptChange). k.uid) f) ∙ e))
overtaken_by (n ∷ later) c uid (inr h) e = ap (λ b. eqb n.uid uid || b) (overtaken_by later c uid h e) ∙ either (eqb n.uid uid)
  where
    either : (b : Bool) → (b || true) ≡ true
    either true = refl
    either false = refl

numbered_has : (changes : List SeenChange) (place : ℕ) (s : SeenChange) → Has changes s → (c : KeptChange) × Has (numbered place changes) c × (c.uid ≡ s.uid)
numbered_has [] place s none = absurd none
numbered_has (r ∷ changes) place s (inl e) = (record { place = place; before = r.before; uid = r.uid; seen = r.seen }, inl refl, ap (λ (x : SeenChange). x.uid) (sym e))
numbered_has (r ∷ changes) place s (inr h) = let (c, there, same) = numbered_has changes (place + 1) s h in (c, inr there, same)

-- ---- numbers of shared events

befores_with : (changes : List SeenChange) (own : Own) → (with_changes changes own).befores ≡ own.befores ++ befores_of changes
befores_with [] own = sym (append-nil own.befores)
befores_with (s ∷ changes) own = befores_with changes (with_change s own) ∙ append_assoc own.befores (s.before ∷ []) (befores_of changes)

within_front : (xs ys zs : List ℕ) (b i : ℕ) → i ≤ length xs → get_or ((xs ++ b ∷ ys) ++ zs) i 0 ≡ get_or (xs ++ b ∷ []) i 0
within_front [] ys zs b zero le = refl
within_front [] ys zs b (suc i) le = absurd (omega (arith, le))
within_front (x ∷ xs) ys zs b zero le = refl
within_front (x ∷ xs) ys zs b (suc i) le = within_front xs ys zs b i (omega (arith, le))

joined_with : (rows news : List KeptChange) (shared : ℕ) → AreKept 0 0 shared (rows ++ news) → found_in (rows ++ news) ≡ with_all news (found_in rows)
joined_with rows [] shared h = ap found_in (append-nil rows)
joined_with rows (c ∷ news) shared h =
    let whole = sym (append_assoc rows (c ∷ []) news) in
    let kept = subst (AreKept 0 0 shared) whole h in
    ap found_in whole ∙ joined_with (rows ++ c ∷ []) news shared kept ∙ ap (with_all news) (found_push rows c shared (kept_front (rows ++ c ∷ []) news 0 0 shared kept))

-- ---- all that go

module _ (rows : List KeptChange) (first : SeenChange) (more : List SeenChange) (n shared : ℕ) (kept : AreKept 0 0 shared (rows ++ numbered n (first ∷ more))) (counted : n ≡ length (filled 0 rows)) where
  abbrev news : List KeptChange
  news = numbered n (first ∷ more)

  abbrev own : Own
  own = found_in rows

  rows_kept : AreKept 0 0 shared rows
  rows_kept = kept_front rows news 0 0 shared kept

  all : found_in (rows ++ news) ≡ with_changes (first ∷ more) own
  all = joined_with rows news shared kept ∙ ap (λ m. with_all (numbered m (first ∷ more)) own) counted ∙ sym (changes_are_numbered own (first ∷ more))

  befores : filled 0 (rows ++ news) ≡ own.befores ++ first.before ∷ befores_of more
  befores = ap (λ (o : Own). o.befores) all ∙ befores_with (first ∷ more) own

  -- the rows that are left so far
  pub record AreLeft (left : List KeptChange) : Type 0 where
    pub order : AreKept 0 0 shared (left ++ news)
    pub same : found_in (left ++ news) ≡ found_in (rows ++ news)
    pub among : (k : KeptChange) → Has left k → Has rows k

  one_goes : (left : List KeptChange) (place : ℕ) → AreLeft left → IsDropped first.before own (first ∷ more) place → AreLeft (without_row (Some place) left)
  one_goes left place l d = record {
    order = without_kept (Some place) left news shared l.order;
    same = by (looked_up left place) ∙ l.same;
    among = λ k h. l.among k (has_without left place k h);
  }
    where
      there : Has rows d.change
      there =
          ⊎_elim (λ (no : (get empty d.by.uid ≡ Some d.change) × (is_overtaken d.by.uid rows ≡ false)). absurd (let z : None ≡ Some d.change = sym (get-empty nat_cmp d.by.uid) ∙ no.0 in cc z))
          (λ (s : IsSplit rows d.by.uid d.change). subst (λ l. Has l d.change) (sym s.whole) (has_middle s.front s.back d.change))
          (split rows empty d.by.uid d.change d.last)

      uid : d.change.uid ≡ d.by.uid
      uid =
          ⊎_elim (λ (no : (get empty d.by.uid ≡ Some d.change) × (is_overtaken d.by.uid rows ≡ false)). absurd (let z : None ≡ Some d.change = sym (get-empty nat_cmp d.by.uid) ∙ no.0 in cc z))
          (λ (s : IsSplit rows d.by.uid d.change). s.uid_is)
          (split rows empty d.by.uid d.change d.last)

      gone : (s : StandsIn left place) → found_in (without_row (Some place) left ++ news) ≡ found_in (left ++ news)
      gone s =
          ap (λ l. found_in (without_row (Some place) l ++ news)) s.whole
          ∙ ap (λ p. found_in (without_row (Some p) (s.front ++ s.row ∷ s.back) ++ news)) (sym s.at)
          ∙ ap (λ l. found_in (l ++ news)) (one_out s.front s.back s.row 0 0 shared (kept_front (s.front ++ s.row ∷ s.back) news 0 0 shared whole))
          ∙ ap found_in (append_assoc s.front s.back news)
          ∙ any_may_go s.front (s.back ++ news) s.row shared (subst (AreKept 0 0 shared) joined whole) may
          ∙ ap found_in (sym joined)
          ∙ ap (λ l. found_in (l ++ news)) (sym s.whole)
        where
          joined : (s.front ++ s.row ∷ s.back) ++ news ≡ s.front ++ s.row ∷ (s.back ++ news)
          joined = append_assoc s.front (s.row ∷ s.back) news

          whole : AreKept 0 0 shared ((s.front ++ s.row ∷ s.back) ++ news)
          whole = subst (λ l. AreKept 0 0 shared (l ++ news)) s.whole l.order

          it : s.row ≡ d.change
          it = one_place rows 0 0 shared rows_kept s.row d.change (l.among s.row (subst (λ l. Has l s.row) (sym s.whole) (has_middle s.front s.back s.row))) there (s.at ∙ sym d.place_is)

          over : is_overtaken s.row.uid (s.back ++ news) ≡ true
          over =
              let (c, among, same) = numbered_has (first ∷ more) n d.by d.among in
              overtaken_by (s.back ++ news) c s.row.uid (has_right s.back news c among) (same ∙ sym uid ∙ ap (λ (k : KeptChange). k.uid) (sym it))

          low : s.row.place + 1 ≤ length own.befores
          low = let h = place_low rows 0 0 shared rows_kept d.change there in let at = ap (λ (k : KeptChange). k.place) it in omega (arith, h, at)

          next : next_of (s.back ++ news) s.row ≡ slice_index (own.befores ++ first.before ∷ []) (s.row.place + 1)
          next =
              sym (at_next s.front (s.back ++ news) s.row s.row 0 0 shared (subst (AreKept 0 0 shared) joined whole))
              ∙ ap (λ i. get_or (filled 0 (s.front ++ s.row ∷ (s.back ++ news)) ++ s.row.before ∷ []) i 0) (let z : s.row.place + 1 - 0 ≡ s.row.place + 1 = omega arith in z)
              ∙ ap (λ l. get_or (l ++ s.row.before ∷ []) (s.row.place + 1) 0)
              (ap (filled 0) (sym joined) ∙ ap (λ l. filled 0 (l ++ news)) (sym s.whole) ∙ ap (λ (o : Own). o.befores) l.same ∙ befores)
              ∙ within_front own.befores (befores_of more) (s.row.before ∷ []) first.before (s.row.place + 1) low

          runs : (later : List KeptChange) → is_overtaken s.row.uid later ≡ true → eqb (next_of later s.row) s.row.before ≡ true → runs_on s.row later ≡ true
          runs [] none e = absurd (cc none)
          runs (x ∷ later) some e = e

          free : eqb (next_of (s.back ++ news) s.row) s.row.before ≡ true
          free =
              ap (λ m. eqb m s.row.before) next
              ∙ ap (λ (k : KeptChange). eqb (slice_index (own.befores ++ first.before ∷ []) (k.place + 1)) k.before) it ∙ d.free

          may : may_go s.row (s.back ++ news) ≡ true
          may = λ i. runs (s.back ++ news) over free i && over i

      by : (without_row (Some place) left ≡ left) ⊎ StandsIn left place → found_in (without_row (Some place) left ++ news) ≡ found_in (left ++ news)
      by (inl same) = ap (λ l. found_in (l ++ news)) same
      by (inr s) = gone s

  all_go : (places : List ℕ) (left : List KeptChange) → AreLeft left → ((place : ℕ) → Has places place → IsDropped first.before own (first ∷ more) place) → AreLeft (without_rows places left)
  all_go [] left l drops = l
  all_go (place ∷ places) left l drops = all_go places (without_row (Some place) left) (one_goes left place l (drops place (inl refl))) (λ p h. drops p (inr h))

  some_go : AreLeft (without_rows (dropped_with (first ∷ more) own) rows)
  some_go = all_go (dropped_with (first ∷ more) own) rows (record { order = kept; same = refl; among = λ k h. h }) (all_dropped first.before own (first ∷ more))

-- the rows that are left, and those of the changes, stand for all
all_follow : (rows : List KeptChange) (changes : List SeenChange) (n shared : ℕ) → AreKept 0 0 shared (rows ++ numbered n changes) → n ≡ length (filled 0 rows)
    → AreKept 0 0 shared (without_rows (dropped_with changes (found_in rows)) rows ++ numbered n changes)
    × (found_in (without_rows (dropped_with changes (found_in rows)) rows ++ numbered n changes) ≡ with_changes changes (found_in rows))
all_follow rows [] n shared kept counted = (kept, ap found_in (append-nil rows))
all_follow rows (first ∷ more) n shared kept counted =
    let left = some_go rows first more n shared kept counted in
    (left.order, left.same ∙ all rows first more n shared kept counted)

-- ---- of a batch

module _ (b : Batch) (s : Summary) (may : MayWrite (write_of b s) s) (rows : List KeptChange) (kept : AreKept 0 0 s.shared rows) (found : found_in rows ≡ own_at s.own b.user) where
  abbrev n : ℕ
  n = length (own_at s.own b.user).befores

  abbrev t : Summary
  t = with_batch b s

  abbrev changes : List SeenChange
  changes = own_made s.next s.shared n b

  entered : IsEntered (write_of b s) s t
  entered = writes_are_entered s (write_of b s) may

  counted : n ≡ length (filled 0 rows)
  counted = ap (λ (o : Own). length o.befores) (sym found)

  few : n ≤ max_events
  few = let le = kept_few rows 0 0 s.shared (omega arith) kept in omega (arith, le, counted)

  order : AreInOrder s.shared t.shared (befores_of changes)
  order =
      let shared = entered.shared in
      order_taken (max_events - n) s.shared t.shared (own_asked s.next s.shared b) (asked_order s.next s.shared t.shared b (omega (arith, shared)))

  new_kept : AreKept n s.shared t.shared (numbered n changes)
  new_kept = let short = taken_short (max_events - n) (own_asked s.next s.shared b) in numbered_kept changes n s.shared t.shared order (omega (arith, short, few))

  whole : AreKept 0 0 t.shared (rows ++ numbered n changes)
  whole =
      let shared = entered.shared in
      kept_joined rows (numbered n changes) 0 0 s.shared t.shared kept (omega arith) (omega (arith, shared))
      (λ m is. subst (λ m. AreKept m s.shared t.shared (numbered n changes)) (let z : n ≡ m = omega (arith, is, counted) in z) new_kept)

  pub follow : AreKept 0 0 t.shared (own_rows (write_of b s) rows) × (found_in (own_rows (write_of b s) rows) ≡ own_at t.own b.user)
  follow =
      let it = all_follow rows changes n t.shared whole counted in
      let same : without_rows (dropped_with changes (found_in rows)) rows ++ numbered n changes ≡ own_rows (write_of b s) rows =
      ap (λ (o : Own). without_rows (dropped_with changes o) rows ++ numbered n changes) found in
      (subst (AreKept 0 0 t.shared) same it.0, ap found_in (sym same) ∙ it.1 ∙ ap (with_changes changes) found ∙ sym entered.own)

pub own_rows_follow : OwnRowsFollow
own_rows_follow s w rows may kept found =
    subst (λ (x : BatchWrite). AreKept 0 0 (with_batch w.batch s).shared (own_rows x rows) × (found_in (own_rows x rows) ≡ own_at (with_batch w.batch s).own w.batch.user)) (sym may.current)
    (follow w.batch s (subst (λ (x : BatchWrite). MayWrite x s) may.current may) rows kept found)
