-- The table of a user's last own changes.
use Rattle.std.proofs.Common.{◌≡◌, inl, inr, ⊎_elim, ℕ, zero, suc, ◌+◌, ◌<◌, ◌≤◌, eqb, ltb, Bool, true, false, cond, List, [], ◌∷◌, length, map, get_or, set, Some, None, refl, sym, ap, subst, ◌∙◌, arith}
use Rattle.std.specs.Prelude.{insert}
use Rattle.std.proofs.lemmas.Bool.{ne_eqb, eq-eqb, eqb-true, ltb-true, ltb-false, cases_lt}
use Rattle.std.proofs.lemmas.List.{length-map, get_or_default}
use Rattle.std.proofs.lemmas.List.Sums.{prefix_len_passes, prefix_len_stops}
use Rattle.std.specs.List.Sorted.{IsNonDecreasingBy}
use Rattle.std.specs.Cmp.{nat_cmp_total, unsigned_tied}
use Rattle.std.specs.FinMap as fin
use Rattle.std.specs.FinMap.{get, find, get-from_entries}
use Rattle.std.specs.Ordering.{nat_cmp}
use Rattle.imap_mailbox.specs.declared.kept_change.KeptChange.{KeptChange}
use Rattle.imap_mailbox.specs.Summary.{Rises, AreRising}
use Rattle.imap_mailbox.specs.Latest.{last_uids, last_in, latest_in, put_in, before_uid, IsAt, IsPlace, IsGap}
use Rattle.imap_mailbox.proofs.Rising.{rises_lower, rises_upper}
use Rattle.imap_mailbox.proofs.Finding.{up}
use Rattle.imap_mailbox.proofs.Found.{got, same_answers}
use Rattle.imap_mailbox.proofs.Reordered.{Has, same_rising}

-- ---- the place

count : (table : List KeptChange) → length (last_uids table) ≡ length table
count table = length-map table (λ l. l.uid)

uid_at : (table : List KeptChange) (i e : ℕ) (d : KeptChange) → i < length table → get_or (last_uids table) i e ≡ (get_or table i d).uid
uid_at [] i e d lt = absurd (omega arith)
uid_at (l ∷ table) zero e d lt = refl
uid_at (l ∷ table) (suc i) e d lt = uid_at table i e d (omega arith)

pub no_decrease : (table : List KeptChange) → AreRising (last_uids table) → IsNonDecreasingBy (λ l. l.uid) table
no_decrease table h i j d le lt =
    omega (arith, count table, up h.0 h.1 (last_uids table) i j 0 h.2 le (omega (arith, count table, lt)), uid_at table i 0 d (omega arith), uid_at table j 0 d lt)

-- a place that is near is that of the UID, by the entries beside it
pub ends_low : (uid : ℕ) (table : List KeptChange) (i : ℕ) (d : KeptChange) → AreRising (last_uids table) → i < length table → (get_or table i d).uid < uid → i < before_uid uid table
ends_low uid table i d h lt less = ⊎_elim (λ (low : i < before_uid uid table). low) (λ (le : before_uid uid table ≤ i). absurd (no le)) (cases_lt i (before_uid uid table))
  where
    no : before_uid uid table ≤ i → ⊥
    no le =
        let k = before_uid uid table in
        let stops = ltb-false (get_or table k d).uid uid (prefix_len_stops (λ l. ltb l.uid uid) table d (omega (arith, le, lt))) in
        omega (arith, stops, no_decrease table h k i d le lt, less)

pub goes_high : (uid : ℕ) (table : List KeptChange) (i : ℕ) (d : KeptChange) → i < length table → uid ≤ (get_or table i d).uid → before_uid uid table ≤ i
goes_high uid table i d lt le = ⊎_elim (λ (low : i < before_uid uid table). absurd (no low)) (λ (high : before_uid uid table ≤ i). high) (cases_lt i (before_uid uid table))
  where
    no : i < before_uid uid table → ⊥
    no low =
        let less = ltb-true (get_or table i d).uid uid (prefix_len_passes (λ l. ltb l.uid uid) table i d low) in
        omega (arith, less, le)

-- ---- what is found there

pub none_above : (uid low high : ℕ) (table : List KeptChange) → uid < low → Rises low high (last_uids table) → last_in uid table ≡ None
none_above uid low high [] lt h = refl
none_above uid low high (l ∷ table) lt h =
    let at : low ≤ l.uid = h.0 in
    ap (λ b. cond b (Some l) (last_in uid table)) (ne_eqb uid l.uid (λ e. omega (arith, at, e)))
    ∙ none_above uid (l.uid + 1) high table (omega (arith, at)) h.1

found : (uid : ℕ) (table : List KeptChange) (i : ℕ) (x : KeptChange) → IsPlace uid table i → x ≡ get_or table i x → last_in uid table ≡ Some x
found uid [] i x p is = absurd (let lt = p.1.0 in omega (arith, lt))
found uid (l ∷ table) i x p is = by (ltb l.uid uid) refl i p is (λ j. found uid table j x)
  where
    by : (b : Bool) → ltb l.uid uid ≡ b → (i : ℕ) → (i ≡ cond b (1 + before_uid uid table) 0) × IsAt uid (l ∷ table) i → x ≡ get_or (l ∷ table) i x
        → ((j : ℕ) → IsPlace uid table j → x ≡ get_or table j x → last_in uid table ≡ Some x) → last_in uid (l ∷ table) ≡ Some x
    by true t zero p is rest = let at = p.0 in absurd (omega (arith, at))
    by true t (suc i) p is rest =
        let at = p.0 in
        let lt = p.1.0 in
        ap (λ b. cond b (Some l) (last_in uid table)) (ne_eqb uid l.uid (λ e. let less = ltb-true l.uid uid t in omega (arith, less, e)))
        ∙ rest i (omega (arith, at), (omega (arith, lt), p.1.1)) is
    by false t zero p is rest = ap (λ b. cond b (Some l) (last_in uid table)) (eq-eqb uid l.uid (sym (p.1.1 x))) ∙ ap Some (sym is)
    by false t (suc i) p is rest = let at = p.0 in absurd (omega (arith, at))

pub found_at : (uid : ℕ) (table : List KeptChange) (i : ℕ) (d : KeptChange) → IsPlace uid table i → last_in uid table ≡ Some (get_or table i d)
found_at uid table i d p = found uid table i (get_or table i d) p (get_or_default table i d (get_or table i d) p.1.0)

pub missed : (uid low high : ℕ) (table : List KeptChange) (i : ℕ) → Rises low high (last_uids table) → IsGap uid table i → last_in uid table ≡ None
missed uid low high [] i h p = refl
missed uid low high (l ∷ table) i h p = by (ltb l.uid uid) refl i p (λ j. missed uid (l.uid + 1) high table j h.1)
  where
    by : (b : Bool) → ltb l.uid uid ≡ b → (i : ℕ) → (i ≡ cond b (1 + before_uid uid table) 0) × (i ≤ length (l ∷ table)) × (IsAt uid (l ∷ table) i → ⊥)
        → ((j : ℕ) → IsGap uid table j → last_in uid table ≡ None) → last_in uid (l ∷ table) ≡ None
    by true t zero p rest = let at = p.0 in absurd (omega (arith, at))
    by true t (suc i) p rest =
        let at = p.0 in
        let le = p.1 in
        ap (λ b. cond b (Some l) (last_in uid table)) (ne_eqb uid l.uid (λ e. let less = ltb-true l.uid uid t in omega (arith, less, e)))
        ∙ rest i (omega (arith, at), omega (arith, le), λ there. p.2 (let lt = there.0 in omega (arith, lt), there.1))
    by false t zero p rest =
        let more = ltb-false l.uid uid t in
        ap (λ b. cond b (Some l) (last_in uid table)) (ne_eqb uid l.uid (λ e. p.2 (omega arith, λ d. sym e)))
        ∙ none_above uid (l.uid + 1) high table (omega (arith, more)) h.1
    by false t (suc i) p rest = let at = p.0 in absurd (omega (arith, at))

-- ---- one that is put

pub set_is : (last : KeptChange) (table : List KeptChange) (i : ℕ) → IsPlace last.uid table i → set table i last ≡ put_in last table
set_is last [] i p = let lt = p.1.0 in absurd (omega (arith, lt))
set_is last (l ∷ table) i p = by (ltb l.uid last.uid) i p (set_is last table)
  where
    by : (b : Bool) (i : ℕ) → (i ≡ cond b (1 + before_uid last.uid table) 0) × IsAt last.uid (l ∷ table) i
        → ((j : ℕ) → IsPlace last.uid table j → set table j last ≡ put_in last table)
        → set (l ∷ table) i last ≡ cond b (l ∷ put_in last table) (cond (eqb l.uid last.uid) (last ∷ table) (last ∷ l ∷ table))
    by true zero p rest = let at = p.0 in absurd (omega (arith, at))
    by true (suc i) p rest = let at = p.0 in let lt = p.1.0 in ap (λ t. l ∷ t) (rest i (omega (arith, at), (omega (arith, lt), p.1.1)))
    by false zero p rest = sym (ap (λ b. cond b (last ∷ table) (last ∷ l ∷ table)) (eq-eqb l.uid last.uid (p.1.1 l)))
    by false (suc i) p rest = let at = p.0 in absurd (omega (arith, at))

pub insert_is : (last : KeptChange) (table : List KeptChange) (i : ℕ) → IsGap last.uid table i → insert table i last ≡ put_in last table
insert_is last [] zero p = refl
insert_is last [] (suc i) p = let le = p.1 in absurd (omega (arith, le))
insert_is last (l ∷ table) i p = by (ltb l.uid last.uid) i p (insert_is last table)
  where
    by : (b : Bool) (i : ℕ) → (i ≡ cond b (1 + before_uid last.uid table) 0) × (i ≤ length (l ∷ table)) × (IsAt last.uid (l ∷ table) i → ⊥)
        → ((j : ℕ) → IsGap last.uid table j → insert table j last ≡ put_in last table)
        → insert (l ∷ table) i last ≡ cond b (l ∷ put_in last table) (cond (eqb l.uid last.uid) (last ∷ table) (last ∷ l ∷ table))
    by true zero p rest = let at = p.0 in absurd (omega (arith, at))
    by true (suc i) p rest = let at = p.0 in let le = p.1 in ap (λ t. l ∷ t) (rest i (omega (arith, at), omega (arith, le), λ there. p.2 (let lt = there.0 in omega (arith, lt), there.1)))
    by false zero p rest = sym (ap (λ b. cond b (last ∷ table) (last ∷ l ∷ table)) (ne_eqb l.uid last.uid (λ e. p.2 (omega arith, λ d. e))))
    by false (suc i) p rest = let at = p.0 in absurd (omega (arith, at))

find_put : (uid : ℕ) (last : KeptChange) (table : List KeptChange) → last_in uid (put_in last table) ≡ cond (eqb uid last.uid) (Some last) (last_in uid table)
find_put uid last [] = refl
find_put uid last (l ∷ table) = by (ltb l.uid last.uid) refl (eqb l.uid last.uid) refl (find_put uid last table)
  where
    turn : (a b : Bool) → eqb uid l.uid ≡ a → eqb uid last.uid ≡ b → ltb l.uid last.uid ≡ true
        → cond a (Some l) (cond b (Some last) (last_in uid table)) ≡ cond b (Some last) (cond a (Some l) (last_in uid table))
    turn true true e f t = let lt = ltb-true l.uid last.uid t in let here = eqb-true uid l.uid e in let there = eqb-true uid last.uid f in absurd (omega (arith, lt, here, there))
    turn true false e f t = refl
    turn false b e f t = refl

    same : (b : Bool) → eqb uid last.uid ≡ b → l.uid ≡ last.uid
        → cond b (Some last) (last_in uid table) ≡ cond b (Some last) (cond (eqb uid l.uid) (Some l) (last_in uid table))
    same true f e = refl
    same false f e = sym (ap (λ b. cond b (Some l) (last_in uid table)) (ap (eqb uid) e ∙ f))

    by : (a : Bool) → ltb l.uid last.uid ≡ a → (b : Bool) → eqb l.uid last.uid ≡ b
        → last_in uid (put_in last table) ≡ cond (eqb uid last.uid) (Some last) (last_in uid table)
        → last_in uid (cond a (l ∷ put_in last table) (cond b (last ∷ table) (last ∷ l ∷ table)))
        ≡ cond (eqb uid last.uid) (Some last) (cond (eqb uid l.uid) (Some l) (last_in uid table))
    by true t b e rest = ap (cond (eqb uid l.uid) (Some l)) rest ∙ turn (eqb uid l.uid) (eqb uid last.uid) refl refl t
    by false t true e rest = same (eqb uid last.uid) refl (eqb-true l.uid last.uid e)
    by false t false e rest = refl

rises_put : (low high : ℕ) (last : KeptChange) (table : List KeptChange) → low ≤ last.uid → last.uid < high → Rises low high (last_uids table) → Rises low high (last_uids (put_in last table))
rises_put low high last [] le lt h = (le, omega arith)
rises_put low high last (l ∷ table) le lt h = by (ltb l.uid last.uid) refl (eqb l.uid last.uid) refl (λ more. rises_put (l.uid + 1) high last table more lt h.1)
  where
    by : (a : Bool) → ltb l.uid last.uid ≡ a → (b : Bool) → eqb l.uid last.uid ≡ b
        → (l.uid + 1 ≤ last.uid → Rises (l.uid + 1) high (last_uids (put_in last table)))
        → Rises low high (last_uids (cond a (l ∷ put_in last table) (cond b (last ∷ table) (last ∷ l ∷ table))))
    by true t b e rest = let less = ltb-true l.uid last.uid t in (h.0, rest (omega (arith, less)))
    by false t true e rest = (le, subst (λ n. Rises (n + 1) high (last_uids table)) (eqb-true l.uid last.uid e) h.1)
    by false t false e rest =
        let more = ltb-false l.uid last.uid t in
        (le, ⊎_elim (λ less. (omega (arith, less), h.1)) (λ other. absurd (let z : true ≡ false = sym (eq-eqb l.uid last.uid (omega (arith, more, other))) ∙ e in cc z)) (cases_lt last.uid l.uid))

pub rising_put : (last : KeptChange) (table : List KeptChange) → AreRising (last_uids table) → AreRising (last_uids (put_in last table))
rising_put last table h = (
  0,
  h.1 + (last.uid + 1),
  rises_put 0 (h.1 + (last.uid + 1)) last table (omega arith) (omega arith)
      (rises_upper 0 h.1 (h.1 + (last.uid + 1)) (last_uids table) (omega arith) (rises_lower h.0 0 h.1 (last_uids table) (omega arith) h.2)),
)

-- ---- the table as a map

find_entry : (table : List KeptChange) (uid : ℕ) → find nat_cmp uid (map (λ l. (l.uid, l)) table) ≡ last_in uid table
find_entry [] uid = refl
find_entry (l ∷ table) uid = (λ i. cond (unsigned_tied uid l.uid i) (Some l) (find_entry table uid i))

pub get_latest : (table : List KeptChange) (uid : ℕ) → get (latest_in table) uid ≡ last_in uid table
get_latest table uid = get-from_entries nat_cmp_total (map (λ l. (l.uid, l)) table) uid ∙ find_entry table uid

pub latest_put : (last : KeptChange) (table : List KeptChange) → latest_in (put_in last table) ≡ fin.insert (latest_in table) last.uid last
latest_put last table = same_answers _ _ (λ uid.
    get_latest (put_in last table) uid ∙ find_put uid last table ∙ ap (cond (eqb uid last.uid) (Some last)) (sym (get_latest table uid)) ∙ sym (got (latest_in table) last.uid last uid))

-- the table of a map is one
has_above : (low high : ℕ) (table : List KeptChange) (x : KeptChange) → Rises low high (last_uids table) → Has table x → low ≤ x.uid
has_above low high [] x h has = absurd has
has_above low high (l ∷ table) x h (inl e) = let at : low ≤ l.uid = h.0 in omega (arith, at, ap (λ (y : KeptChange). y.uid) e)
has_above low high (l ∷ table) x h (inr has) = let at : low ≤ l.uid = h.0 in omega (arith, at, has_above (l.uid + 1) high table x h.1 has)

found_there : (low high : ℕ) (table : List KeptChange) (x : KeptChange) → Rises low high (last_uids table) → Has table x → last_in x.uid table ≡ Some x
found_there low high [] x h has = absurd has
found_there low high (l ∷ table) x h (inl e) = ap (λ b. cond b (Some l) (last_in x.uid table)) (eq-eqb x.uid l.uid (ap (λ (y : KeptChange). y.uid) (sym e))) ∙ ap Some e
found_there low high (l ∷ table) x h (inr has) =
    let above = has_above (l.uid + 1) high table x h.1 has in
    ap (λ b. cond b (Some l) (last_in x.uid table)) (ne_eqb x.uid l.uid (λ e. omega (arith, above, e))) ∙ found_there (l.uid + 1) high table x h.1 has

has_found : (table : List KeptChange) (uid : ℕ) (x : KeptChange) → last_in uid table ≡ Some x → Has table x
has_found [] uid x e = absurd (cc e)
has_found (l ∷ table) uid x e = by (eqb uid l.uid) e (has_found table uid x)
  where
    by : (b : Bool) → cond b (Some l) (last_in uid table) ≡ Some x → (last_in uid table ≡ Some x → Has table x) → Has (l ∷ table) x
    by true e rest = inl (cc e)
    by false e rest = inr (rest e)

pub same_table : (xs ys : List KeptChange) → AreRising (last_uids xs) → AreRising (last_uids ys) → latest_in xs ≡ latest_in ys → xs ≡ ys
same_table xs ys g h e =
    same_rising (λ (k : KeptChange). k.uid) g.0 g.1 h.0 h.1 xs ys g.2 h.2
    (λ x has. has_found ys x.uid x (sym (same x.uid) ∙ found_there g.0 g.1 xs x g.2 has))
    (λ x has. has_found xs x.uid x (same x.uid ∙ found_there h.0 h.1 ys x h.2 has))
  where
    same : (uid : ℕ) → last_in uid xs ≡ last_in uid ys
    same uid = sym (get_latest xs uid) ∙ ap (λ m. get m uid) e ∙ get_latest ys uid
