-- A client that is told what came after.
use Rattle.std.proofs.Common.{◌≡◌, ℕ, suc, ◌+◌, ◌-◌, ◌<◌, ◌≤◌, eqb, ltb, not, Bool, true, false, cond, ◌||◌, List, [], ◌∷◌, ◌++◌, length, take, drop, map, filter, refl, sym, ap, subst, ◌∙◌, arith, ⊎_elim}
use Rattle.std.proofs.lemmas.Bool.{cases_lt, lt-ltb, le-ltb, ne_eqb, eq-eqb}
use Rattle.std.proofs.lemmas.List.{map-append, append_assoc, append-nil, take-append-drop, length-take, length-drop}
use Rattle.std.proofs.lemmas.List.Elements.{filter-append}
use Rattle.imap_mailbox.specs.Rows.{Added, FlagsSet, Expunged, Entry, Shared, SeenSet, Row, row_of, at_uid, row_step, rows_from, gone_step, gone_from}
use Rattle.imap_mailbox.specs.History.{History, events_of, rows, gone, IsLawful}
use Rattle.imap_mailbox.specs.Summary.{Rises, summary_of, rows_of, gone_of}
use Rattle.imap_mailbox.specs.Client.{Known, known_of, vanished_since, changed_since, vanish, vanish_all, has, fetch, fetch_all, ClientIsBroughtUp}
use Rattle.imap_mailbox.proofs.Steps.{rows_from-append, gone_from-append}
use Rattle.imap_mailbox.proofs.Uids.{uids_of, uids_run}
use Rattle.imap_mailbox.proofs.Rising.{entries_next, rises_entries}
use Rattle.imap_mailbox.proofs.Bridge.{rows_are_those_of_events, gone_are_those_of_events}

-- ---- a client that has the messages that were messages before, and may have old flags of those with a number greater than n

abbrev Aligned : ℕ → List Known → List Row → Type 0
Aligned n [] [] = Unit {0}
Aligned n [] (r ∷ rs) = (n < r.number) × Aligned n [] rs
Aligned n (k ∷ ks) [] = 1 ≤ 0
Aligned n (k ∷ ks) (r ∷ rs) = (k.uid ≡ r.uid) × (r.number ≤ n → k ≡ known_of r) × Aligned n ks rs

aligned_known : (n : ℕ) (rs : List Row) → Aligned n (map known_of rs) rs
aligned_known n [] = tt
aligned_known n (r ∷ rs) = (refl, λ le. refl, aligned_known n rs)

aligned_push : (n : ℕ) (ks : List Known) (rs : List Row) (r : Row) → n < r.number → Aligned n ks rs → Aligned n ks (rs ++ r ∷ [])
aligned_push n [] [] r lt h = (lt, tt)
aligned_push n [] (x ∷ rs) r lt h = (h.0, aligned_push n [] rs r lt h.1)
aligned_push n (k ∷ ks) [] r lt h = absurd (omega (arith, h))
aligned_push n (k ∷ ks) (x ∷ rs) r lt h = (h.0, h.1, aligned_push n ks rs r lt h.2)

aligned_at : (n m uid : ℕ) (f : Row → Row) → ((r : Row) → (f r).uid ≡ r.uid) → n < m → (ks : List Known) (rs : List Row) → Aligned n ks rs → Aligned n ks (map (at_uid m uid f) rs)
aligned_at n m uid f same lt [] [] h = tt
aligned_at n m uid f same lt [] (r ∷ rs) h = (by (eqb r.uid uid), aligned_at n m uid f same lt [] rs h.1)
  where
    by : (b : Bool) → n < (cond b (record (f r) { number = m }) r).number
    by true = lt
    by false = h.0
aligned_at n m uid f same lt (k ∷ ks) [] h = absurd (omega (arith, h))
aligned_at n m uid f same lt (k ∷ ks) (r ∷ rs) h = (uid_by (eqb r.uid uid), flags_by (eqb r.uid uid), aligned_at n m uid f same lt ks rs h.2)
  where
    uid_by : (b : Bool) → k.uid ≡ (cond b (record (f r) { number = m }) r).uid
    uid_by true = h.0 ∙ sym (same r)
    uid_by false = h.0

    flags_by : (b : Bool) → (cond b (record (f r) { number = m }) r).number ≤ n → k ≡ known_of (cond b (record (f r) { number = m }) r)
    flags_by true le = absurd (omega (arith, le, lt))
    flags_by false le = h.1 le

aligned_gone : (n uid : ℕ) (ks : List Known) (rs : List Row) → Aligned n ks rs → Aligned n (vanish uid ks) (filter (λ r. not (eqb r.uid uid)) rs)
aligned_gone n uid [] [] h = tt
aligned_gone n uid [] (r ∷ rs) h = by (not (eqb r.uid uid)) (aligned_gone n uid [] rs h.1)
  where
    by : (b : Bool) → Aligned n [] (filter (λ r. not (eqb r.uid uid)) rs) → Aligned n [] (cond b (r ∷ filter (λ r. not (eqb r.uid uid)) rs) (filter (λ r. not (eqb r.uid uid)) rs))
    by true rest = (h.0, rest)
    by false rest = rest
aligned_gone n uid (k ∷ ks) [] h = absurd (omega (arith, h))
aligned_gone n uid (k ∷ ks) (r ∷ rs) h =
    subst (λ u. Aligned n (cond (not (eqb u uid)) (k ∷ vanish uid ks) (vanish uid ks)) (filter (λ r. not (eqb r.uid uid)) (r ∷ rs))) (sym h.0) (by (not (eqb r.uid uid)) (aligned_gone n uid ks rs h.2))
  where
    by : (b : Bool) → Aligned n (vanish uid ks) (filter (λ r. not (eqb r.uid uid)) rs)
        → Aligned n (cond b (k ∷ vanish uid ks) (vanish uid ks)) (cond b (r ∷ filter (λ r. not (eqb r.uid uid)) rs) (filter (λ r. not (eqb r.uid uid)) rs))
    by true rest = (h.0, h.1, rest)
    by false rest = rest

-- ---- VANISHED

vanish_push : (us : List ℕ) (u : ℕ) (ks : List Known) → vanish_all (us ++ u ∷ []) ks ≡ vanish u (vanish_all us ks)
vanish_push [] u ks = refl
vanish_push (x ∷ us) u ks = vanish_push us u (vanish x ks)

vanished_push : (n uid m : ℕ) (gone : List (ℕ × ℕ)) → n < m → vanished_since n (gone ++ (uid, m) ∷ []) ≡ vanished_since n gone ++ uid ∷ []
vanished_push n uid m gone lt =
    ap (map (λ (g : ℕ × ℕ). g.0)) (filter-append (λ (g : ℕ × ℕ). ltb n g.1) gone ((uid, m) ∷ []) ∙ ap (λ b. filter (λ (g : ℕ × ℕ). ltb n g.1) gone ++ cond b ((uid, m) ∷ []) []) (lt-ltb n m lt))
    ∙ map-append (λ (g : ℕ × ℕ). g.0) (filter (λ (g : ℕ × ℕ). ltb n g.1) gone) ((uid, m) ∷ [])

aligned_step : (n m : ℕ) (e : Entry) (ks : List Known) (rs : List Row) (gone : List (ℕ × ℕ)) → n < m → Aligned n (vanish_all (vanished_since n gone) ks) rs → Aligned n (vanish_all (vanished_since n (gone_step m e gone)) ks) (row_step m e rs)
aligned_step n m (Shared (Added x)) ks rs gone lt h = aligned_push n (vanish_all (vanished_since n gone) ks) rs (row_of m x) lt h
aligned_step n m (Shared (FlagsSet uid flags)) ks rs gone lt h = aligned_at n m uid (λ r. record r { flags = flags }) (λ r. refl) lt (vanish_all (vanished_since n gone) ks) rs h
aligned_step n m (Shared (Expunged uid)) ks rs gone lt h =
    subst (λ l. Aligned n l (filter (λ r. not (eqb r.uid uid)) rs)) (sym (ap (λ us. vanish_all us ks) (vanished_push n uid m gone lt) ∙ vanish_push (vanished_since n gone) uid ks)) (aligned_gone n uid (vanish_all (vanished_since n gone) ks) rs h)
aligned_step n m (SeenSet uid seen) ks rs gone lt h = aligned_at n m uid (λ r. record r { seen = seen }) (λ r. refl) lt (vanish_all (vanished_since n gone) ks) rs h

aligned_run : (n m : ℕ) (es : List Entry) (ks : List Known) (rs : List Row) (gone : List (ℕ × ℕ)) → (0 < length es → n < m) → Aligned n (vanish_all (vanished_since n gone) ks) rs → Aligned n (vanish_all (vanished_since n (gone_from m es gone)) ks) (rows_from m es rs)
aligned_run n m [] ks rs gone lt h = h
aligned_run n m (e ∷ es) ks rs gone lt h =
    let now : n < m = lt (omega arith) in
    aligned_run n (m + 1) es ks (row_step m e rs) (gone_step m e gone) (λ some. omega arith) (aligned_step n m e ks rs gone now h)

-- nothing went with a number greater than that of the last event
abbrev AreBelow : ℕ → List (ℕ × ℕ) → Type 0
AreBelow m [] = Unit {0}
AreBelow m (g ∷ gone) = (g.1 < m) × AreBelow m gone

below_more : (m : ℕ) (gone : List (ℕ × ℕ)) → AreBelow m gone → AreBelow (m + 1) gone
below_more m [] h = tt
below_more m (g ∷ gone) h = let lt : g.1 < m = h.0 in (omega arith, below_more m gone h.1)

below_push : (m : ℕ) (gone : List (ℕ × ℕ)) (uid : ℕ) → AreBelow m gone → AreBelow (m + 1) (gone ++ (uid, m) ∷ [])
below_push m [] uid h = (omega arith, tt)
below_push m (g ∷ gone) uid h = let lt : g.1 < m = h.0 in (omega arith, below_push m gone uid h.1)

below_step : (m : ℕ) (e : Entry) (gone : List (ℕ × ℕ)) → AreBelow m gone → AreBelow (m + 1) (gone_step m e gone)
below_step m (Shared (Added x)) gone h = below_more m gone h
below_step m (Shared (FlagsSet uid flags)) gone h = below_more m gone h
below_step m (Shared (Expunged uid)) gone h = below_push m gone uid h
below_step m (SeenSet uid seen) gone h = below_more m gone h

below_run : (m : ℕ) (es : List Entry) (gone : List (ℕ × ℕ)) → AreBelow m gone → AreBelow (m + length es) (gone_from m es gone)
below_run m [] gone h = subst (λ k. AreBelow k gone) (let z : m ≡ m + 0 = omega arith in z) h
below_run m (e ∷ es) gone h = subst (λ k. AreBelow k (gone_from (m + 1) es (gone_step m e gone))) (let z : m + 1 + length es ≡ m + suc (length es) = omega arith in z) (below_run (m + 1) es (gone_step m e gone) (below_step m e gone h))

none_vanished : (n m : ℕ) (gone : List (ℕ × ℕ)) → m ≤ n + 1 → AreBelow m gone → vanished_since n gone ≡ []
none_vanished n m [] le h = refl
none_vanished n m (g ∷ gone) le h =
    let lt : g.1 < m = h.0 in
    ap (λ b. map (λ (g : ℕ × ℕ). g.0) (cond b (g ∷ filter (λ (g : ℕ × ℕ). ltb n g.1) gone) (filter (λ (g : ℕ × ℕ). ltb n g.1) gone))) (le-ltb n g.1 (omega arith))
    ∙ none_vanished n m gone le h.1

-- ---- FETCH

abbrev AllBelow : ℕ → List Known → Type 0
AllBelow low [] = Unit {0}
AllBelow low (k ∷ ks) = (k.uid < low) × AllBelow low ks

all_push : (low more : ℕ) (ks : List Known) (k : Known) → low ≤ more → k.uid < more → AllBelow low ks → AllBelow more (ks ++ k ∷ [])
all_push low more [] k le lt h = (lt, tt)
all_push low more (x ∷ ks) k le lt h = let here : x.uid < low = h.0 in (omega arith, all_push low more ks k le lt h.1)

-- messages of other UIDs
abbrev Apart : ℕ → List Known → Type 0
Apart u [] = Unit {0}
Apart u (k ∷ ks) = (eqb k.uid u ≡ false) × Apart u ks

apart_below : (low u : ℕ) (ks : List Known) → low ≤ u → AllBelow low ks → Apart u ks
apart_below low u [] le h = tt
apart_below low u (k ∷ ks) le h = let lt : k.uid < low = h.0 in (ne_eqb k.uid u (λ e. omega arith), apart_below low u ks le h.1)

apart_aligned : (n u low next : ℕ) (ks : List Known) (rs : List Row) → u < low → Rises low next (uids_of rs) → Aligned n ks rs → Apart u ks
apart_aligned n u low next [] rs lt rises h = tt
apart_aligned n u low next (k ∷ ks) [] lt rises h = absurd (omega (arith, h))
apart_aligned n u low next (k ∷ ks) (r ∷ rs) lt rises h =
    let at : low ≤ r.uid = rises.0 in
    let same : k.uid ≡ r.uid = h.0 in
    (ne_eqb k.uid u (λ e. omega arith), apart_aligned n u (r.uid + 1) next ks rs (omega arith) rises.1 h.2)

has_apart : (u : ℕ) (ks : List Known) → Apart u ks → has u ks ≡ false
has_apart u [] h = refl
has_apart u (k ∷ ks) h = (λ i. h.0 i || has u ks) ∙ has_apart u ks h.1

put_apart : (k : Known) (ks : List Known) → Apart k.uid ks → map (λ x. cond (eqb x.uid k.uid) k x) ks ≡ ks
put_apart k [] h = refl
put_apart k (x ∷ ks) h = λ i. cond (h.0 i) k x ∷ put_apart k ks h.1 i

fetch_new : (k : Known) (ks : List Known) → Apart k.uid ks → fetch k ks ≡ ks ++ k ∷ []
fetch_new k ks h = ap (λ b. cond b (map (λ x. cond (eqb x.uid k.uid) k x) ks) (ks ++ k ∷ [])) (has_apart k.uid ks h)

has_there : (u : ℕ) (front : List Known) (old : Known) (ks : List Known) → old.uid ≡ u → has u (front ++ old ∷ ks) ≡ true
has_there u [] old ks e = ap (λ b. b || has u ks) (eq-eqb old.uid u e)
has_there u (x ∷ front) old ks e = ap (λ b. eqb x.uid u || b) (has_there u front old ks e) ∙ by (eqb x.uid u)
  where
    by : (b : Bool) → b || true ≡ true
    by true = refl
    by false = refl

fetch_old : (k : Known) (front : List Known) (old : Known) (ks : List Known) → old.uid ≡ k.uid → Apart k.uid front → Apart k.uid ks → fetch k (front ++ old ∷ ks) ≡ (front ++ k ∷ []) ++ ks
fetch_old k front old ks e before after =
    ap (λ b. cond b (map (λ x. cond (eqb x.uid k.uid) k x) (front ++ old ∷ ks)) ((front ++ old ∷ ks) ++ k ∷ [])) (has_there k.uid front old ks e)
    ∙ map-append (λ (x : Known). cond (eqb x.uid k.uid) k x) front (old ∷ ks)
    ∙ (λ i. put_apart k front before i ++ cond (eq-eqb old.uid k.uid e i) k old ∷ put_apart k ks after i)
    ∙ sym (append_assoc front (k ∷ []) ks)

fetched_yes : (n : ℕ) (r : Row) (rs : List Row) → n < r.number → changed_since n (r ∷ rs) ≡ known_of r ∷ changed_since n rs
fetched_yes n r rs lt = ap (λ b. map known_of (cond b (r ∷ filter (λ r. ltb n r.number) rs) (filter (λ r. ltb n r.number) rs))) (lt-ltb n r.number lt)

fetched_no : (n : ℕ) (r : Row) (rs : List Row) → r.number ≤ n → changed_since n (r ∷ rs) ≡ changed_since n rs
fetched_no n r rs le = ap (λ b. map known_of (cond b (r ∷ filter (λ r. ltb n r.number) rs) (filter (λ r. ltb n r.number) rs))) (le-ltb n r.number le)

settled : (n low next : ℕ) (front ks : List Known) (rs : List Row) → AllBelow low front → Rises low next (uids_of rs) → Aligned n ks rs → fetch_all (changed_since n rs) (front ++ ks) ≡ front ++ map known_of rs
settled n low next front [] [] below rises h = refl
settled n low next front [] (r ∷ rs) below rises h =
    let at : low ≤ r.uid = rises.0 in
    let rest = settled n (r.uid + 1) next (front ++ known_of r ∷ []) [] rs (all_push low (r.uid + 1) front (known_of r) (omega arith) (omega arith) below) rises.1 h.1 in
    ap (λ l. fetch_all l (front ++ [])) (fetched_yes n r rs h.0)
    ∙ ap (λ l. fetch_all (changed_since n rs) (fetch (known_of r) l)) (append-nil front)
    ∙ ap (fetch_all (changed_since n rs)) (fetch_new (known_of r) front (apart_below low r.uid front at below) ∙ sym (append-nil (front ++ known_of r ∷ [])))
    ∙ rest ∙ append_assoc front (known_of r ∷ []) (map known_of rs)
settled n low next front (k ∷ ks) [] below rises h = absurd (omega (arith, h))
settled n low next front (k ∷ ks) (r ∷ rs) below rises h =
    let at : low ≤ r.uid = rises.0 in
    let same : k.uid ≡ r.uid = h.0 in
    let rest = settled n (r.uid + 1) next (front ++ known_of r ∷ []) ks rs (all_push low (r.uid + 1) front (known_of r) (omega arith) (omega arith) below) rises.1 h.2 ∙ append_assoc front (known_of r ∷ []) (map known_of rs) in
    ⊎_elim
    (λ (lt : n < r.number).
    ap (λ l. fetch_all l (front ++ k ∷ ks)) (fetched_yes n r rs lt)
    ∙ ap (fetch_all (changed_since n rs)) (fetch_old (known_of r) front k ks same (apart_below low r.uid front at below) (apart_aligned n r.uid (r.uid + 1) next ks rs (omega arith) rises.1 h.2))
    ∙ rest)
    (λ (le : r.number ≤ n).
    ap (λ l. fetch_all l (front ++ k ∷ ks)) (fetched_no n r rs le)
    ∙ ap (λ l. fetch_all (changed_since n rs) (front ++ l ∷ ks)) (h.1 le)
    ∙ ap (fetch_all (changed_since n rs)) (sym (append_assoc front (known_of r ∷ []) ks))
    ∙ rest)
    (cases_lt n r.number)

-- ---- both

module _ (history : History) (user : List ℕ) (n : ℕ) (h : IsLawful history user) where
  abbrev es : List Entry
  es = events_of history user

  abbrev first : List Entry
  first = take (n - 1) es

  abbrev later : List Entry
  later = drop (n - 1) es

  abbrev then_gone : List (ℕ × ℕ)
  then_gone = gone_from 2 first []

  abbrev then_rows : List Row
  then_rows = rows_from 2 first []

  all_rows : rows history user ≡ rows_from (2 + length first) later then_rows
  all_rows = ap (λ l. rows_from 2 l []) (sym (take-append-drop (n - 1) es)) ∙ rows_from-append 2 (2 + length first) first later [] refl

  all_gone : gone history user ≡ gone_from (2 + length first) later then_gone
  all_gone = ap (λ l. gone_from 2 l []) (sym (take-append-drop (n - 1) es)) ∙ gone_from-append 2 (2 + length first) first later [] refl

  unvanished : n < 2 → vanished_since n then_gone ≡ []
  unvanished lt = ap (λ k. vanished_since n (gone_from 2 (take k es) [])) (let z : n - 1 ≡ 0 = omega arith in z)

  at_first : vanished_since n then_gone ≡ []
  at_first = ⊎_elim (λ (lt : n < 2). unvanished lt)
      (λ (le : 2 ≤ n). none_vanished n (2 + length first) then_gone (omega (arith, length-take (n - 1) es)) (below_run 2 first [] tt)) (cases_lt n 2)

  kept_up : Aligned n (vanish_all (vanished_since n (gone history user)) (map known_of then_rows)) (rows history user)
  kept_up =
      subst (λ g. Aligned n (vanish_all (vanished_since n g) (map known_of then_rows)) (rows history user)) (sym all_gone)
      (subst (λ rs. Aligned n (vanish_all (vanished_since n (gone_from (2 + length first) later then_gone)) (map known_of then_rows)) rs) (sym all_rows)
      (aligned_run n (2 + length first) later (map known_of then_rows) then_rows then_gone (λ some. omega (arith, length-drop (n - 1) es, length-take (n - 1) es))
      (subst (λ us. Aligned n (vanish_all us (map known_of then_rows)) then_rows) (sym at_first) (aligned_known n then_rows))))

  pub brought_up : fetch_all (changed_since n (rows history user)) (vanish_all (vanished_since n (gone history user)) (map known_of then_rows)) ≡ map known_of (rows history user)
  brought_up = settled n 0 (entries_next es 1) [] (vanish_all (vanished_since n (gone history user)) (map known_of then_rows)) (rows history user) tt
      (subst (Rises 0 (entries_next es 1)) (sym (uids_run 2 es [])) (rises_entries es 0 1 [] h.given (omega arith))) kept_up

pub client_is_brought_up : ClientIsBroughtUp
client_is_brought_up s history user n is h =
    subst (λ t. fetch_all (changed_since n (rows_of t user)) (vanish_all (vanished_since n (gone_of t user)) (map known_of (rows_from 2 (take (n - 1) (events_of history user)) []))) ≡ map known_of (rows_of t user)) is
    (subst (λ rs. fetch_all (changed_since n rs) (vanish_all (vanished_since n (gone_of (summary_of history) user)) (map known_of (rows_from 2 (take (n - 1) (events_of history user)) []))) ≡ map known_of rs) (sym (rows_are_those_of_events history user h))
    (subst (λ g. fetch_all (changed_since n (rows history user)) (vanish_all (vanished_since n g) (map known_of (rows_from 2 (take (n - 1) (events_of history user)) []))) ≡ map known_of (rows history user)) (sym (gone_are_those_of_events history user h))
    (brought_up history user n h)))
