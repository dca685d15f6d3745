-- A user's own changes, one after another.
use Rattle.std.proofs.Common.{◌≡◌, ◌⊎◌, inl, inr, ⊎_elim, ℕ, zero, suc, ◌+◌, ◌-◌, ◌≤◌, eqb, Bool, true, false, cond, List, [], ◌∷◌, ◌++◌, length, map, replicate, get_or, Option, Some, None, refl, sym, ap, subst, ◌∙◌, arith}
use Rattle.std.proofs.lemmas.Bool.{eqb-true, ne_eqb}
use Rattle.std.proofs.lemmas.List.{append_assoc, append-nil, length-append, length-replicate, get_or_append_left, get_or-append-add, get_or-replicate}
use Rattle.std.specs.Ordering.{nat_cmp}
use Rattle.std.specs.FinMap.{get, insert, empty, get-empty}
use Rattle.imap_modseq.specs.Merge.{befores, AreInOrder}
use Rattle.imap_mailbox.specs.declared.kept_change.KeptChange.{KeptChange}
use Rattle.imap_mailbox.specs.declared.own.SeenChange.{SeenChange}
use Rattle.imap_mailbox.specs.History.{own_entry}
use Rattle.imap_mailbox.specs.KeptLaws.{ChangesAreNumbered, DroppedStays}
use Rattle.imap_mailbox.specs.KeptRows.{place_if_free}
use Rattle.imap_mailbox.specs.Own.{Own, no_own, filled, latest_after, found_in, numbered, with_kept, with_all, next_change, with_change, with_changes}
use Rattle.imap_mailbox.specs.Rows.{WasGiven}
use Rattle.imap_mailbox.specs.Summary.{AreOfGiven, Fits, IsLast}
use Rattle.imap_mailbox.proofs.Found.{got}
use Rattle.imap_mailbox.proofs.Following.{latest_push}

-- ---- all changes

filled_numbered : (own : List SeenChange) (j : ℕ) → filled j (numbered j own) ≡ befores (map own_entry own)
filled_numbered [] j = refl
filled_numbered (s ∷ own) j =
    ap (λ n. replicate n s.before ++ filled (j + 1) (numbered (j + 1) own)) (let z : j + 1 - j ≡ 1 = omega arith in z)
    ∙ ap (λ l. s.before ∷ l) (filled_numbered own (j + 1))

length-befores_all : (own : List SeenChange) → length (befores (map own_entry own)) ≡ length own
length-befores_all [] = refl
length-befores_all (s ∷ own) = ap suc (length-befores_all own)

pub length-found : (own : List SeenChange) → length (found_in (numbered 0 own)).befores ≡ length own
length-found own = ap length (filled_numbered own 0) ∙ length-befores_all own

pub found_befores : (own : List SeenChange) → (found_in (numbered 0 own)).befores ≡ befores (map own_entry own)
found_befores own = filled_numbered own 0

pub befores_push : (own : List SeenChange) (s : SeenChange) → befores (map own_entry (own ++ s ∷ [])) ≡ befores (map own_entry own) ++ s.before ∷ []
befores_push [] s = refl
befores_push (o ∷ own) s = ap (λ l. o.before ∷ l) (befores_push own s)

numbered_push : (own : List SeenChange) (j : ℕ) (s : SeenChange)
    → numbered j (own ++ s ∷ []) ≡ numbered j own ++ record { place = j + length own; before = s.before; uid = s.uid; seen = s.seen } ∷ []
numbered_push [] j s = ap (λ p. record { place = p; before = s.before; uid = s.uid; seen = s.seen } ∷ []) (let z : j ≡ j + 0 = omega arith in z)
numbered_push (o ∷ own) j s =
    ap (λ l. record { place = j; before = o.before; uid = o.uid; seen = o.seen } ∷ l)
    (numbered_push own (j + 1) s
    ∙ ap (λ p. numbered (j + 1) own ++ record { place = p; before = s.before; uid = s.uid; seen = s.seen } ∷ []) (let z : j + 1 + length own ≡ j + suc (length own) = omega arith in z))

pub found_more : (own : List SeenChange) (s : SeenChange) → found_in (numbered 0 (own ++ s ∷ [])) ≡ with_change s (found_in (numbered 0 own))
found_more own s = λ i. record { befores = bs i; latest = last i }
  where
    bs : filled 0 (numbered 0 (own ++ s ∷ [])) ≡ filled 0 (numbered 0 own) ++ s.before ∷ []
    bs = filled_numbered (own ++ s ∷ []) 0 ∙ befores_push own s ∙ ap (λ l. l ++ s.before ∷ []) (sym (filled_numbered own 0))

    last : latest_after empty (numbered 0 (own ++ s ∷ [])) ≡ insert (latest_after empty (numbered 0 own)) s.uid (next_change s (found_in (numbered 0 own)))
    last =
        ap (latest_after empty) (numbered_push own 0 s)
        ∙ latest_push (numbered 0 own) empty (record { place = 0 + length own; before = s.before; uid = s.uid; seen = s.seen })
        ∙ ap (λ p. insert (latest_after empty (numbered 0 own)) s.uid (record { place = p; before = s.before; uid = s.uid; seen = s.seen }))
        (let z : 0 + length own ≡ length (found_in (numbered 0 own)).befores = omega (arith, length-found own) in z)

all_from : (own done : List SeenChange) → with_changes own (found_in (numbered 0 done)) ≡ found_in (numbered 0 (done ++ own))
all_from [] done = ap (λ l. found_in (numbered 0 l)) (sym (append-nil done))
all_from (s ∷ own) done =
    ap (with_changes own) (sym (found_more done s)) ∙ all_from own (done ++ s ∷ [])
    ∙ ap (λ l. found_in (numbered 0 l)) (append_assoc done (s ∷ []) own)

-- all are found one after another
pub found_changes : (own : List SeenChange) → with_changes own no_own ≡ found_in (numbered 0 own)
found_changes own = all_from own []

-- ---- the next place

pub with_change-kept : (s : SeenChange) (own : Own) → with_change s own ≡ with_kept (next_change s own) own
with_change-kept s own = λ i. record {
  befores = ap (λ n. own.befores ++ replicate n s.before) (let z : 1 ≡ length own.befores + 1 - length own.befores = omega arith in z) i;
  latest = insert own.latest s.uid (next_change s own);
}

pub changes_are_numbered : ChangesAreNumbered
changes_are_numbered own [] = refl
changes_are_numbered own (s ∷ changes) =
    changes_are_numbered (with_change s own) changes
    ∙ (λ i. with_all (numbered (len i) changes) (with_change-kept s own i))
  where
    len : length (own.befores ++ s.before ∷ []) ≡ length own.befores + 1
    len = length-append own.befores (s.before ∷ [])

-- ---- the last change of a message, when a change comes

pub len_put : (c : KeptChange) (own : Own) → length own.befores ≤ c.place → length (with_kept c own).befores ≡ c.place + 1
len_put c own le = omega (arith, le, length-append own.befores (replicate (c.place + 1 - length own.befores) c.before), length-replicate (c.place + 1 - length own.befores) c.before)

-- it is the change itself, or the one that was there
pub last_put : (c : KeptChange) (own : Own) (uid : ℕ) (k : KeptChange) → get (with_kept c own).latest uid ≡ Some k → ((uid ≡ c.uid) × (c ≡ k)) ⊎ (get own.latest uid ≡ Some k)
last_put c own uid k e = by (eqb uid c.uid) refl (sym (got own.latest c.uid c uid) ∙ e)
  where
    by : (t : Bool) → eqb uid c.uid ≡ t → cond t (Some c) (get own.latest uid) ≡ Some k → ((uid ≡ c.uid) × (c ≡ k)) ⊎ (get own.latest uid ≡ Some k)
    by true same is = inl (eqb-true uid c.uid same, cc is)
    by false other is = inr is

pub last_new : (c : KeptChange) (own : Own) → length own.befores ≤ c.place → IsLast (with_kept c own).befores c.uid c
last_new c own le = record {
  uid_is = refl;
  place = omega (arith, len_put c own le);
  before = ap (λ p. get_or (own.befores ++ replicate n c.before) p 0) (let z : c.place ≡ length own.befores + (c.place - length own.befores) = omega (arith, le) in z)
      ∙ get_or-append-add own.befores (replicate n c.before) (c.place - length own.befores) 0
      ∙ get_or-replicate n (c.place - length own.befores) c.before 0 (omega (arith, le));
}
  where
    n : ℕ
    n = c.place + 1 - length own.befores

pub last_old : (c : KeptChange) (own : Own) (uid : ℕ) (k : KeptChange) → IsLast own.befores uid k → IsLast (with_kept c own).befores uid k
last_old c own uid k h = record {
  uid_is = h.uid_is;
  place = let len = length-append own.befores (replicate (c.place + 1 - length own.befores) c.before) in let lt = h.place in omega (arith, len, lt);
  before = get_or_append_left own.befores (replicate (c.place + 1 - length own.befores) c.before) 0 k.place h.place ∙ h.before;
}

pub last_stays : (c : KeptChange) (own : Own) → length own.befores ≤ c.place → ((uid : ℕ) (k : KeptChange) → get own.latest uid ≡ Some k → IsLast own.befores uid k)
    → (uid : ℕ) (k : KeptChange) → get (with_kept c own).latest uid ≡ Some k → IsLast (with_kept c own).befores uid k
last_stays c own le h uid k e = ⊎_elim
    (λ (is : (uid ≡ c.uid) × (c ≡ k)). subst (λ x. IsLast (with_kept c own).befores uid x) is.1 (subst (λ u. IsLast (with_kept c own).befores u c) (sym is.0) (last_new c own le)))
    (λ (old : get own.latest uid ≡ Some k). last_old c own uid k (h uid k old))
    (last_put c own uid k e)

-- ---- the order of changes

pub wider : (from low high : ℕ) (bs : List ℕ) → low ≤ high → AreInOrder from low bs → AreInOrder from high bs
wider from low high [] le h = tt
wider from low high (b ∷ bs) le h = let within : b ≤ low = h.1 in (h.0, omega arith, wider b low high bs le h.2)

in_order_more : (n b from : ℕ) (bs : List ℕ) → from ≤ b → AreInOrder from b bs → AreInOrder from b (bs ++ replicate n b)
in_order_more n b from [] le h = equal n b from le
  where
    equal : (n b from : ℕ) → from ≤ b → AreInOrder from b (replicate n b)
    equal zero b from le = tt
    equal (suc n) b from le = (le, omega arith, equal n b b (omega arith))
in_order_more n b from (c ∷ bs) le h = (h.0, h.1, in_order_more n b c bs h.1 h.2)

pub order_put : (c : KeptChange) (own : Own) (high : ℕ) → AreInOrder 0 c.before own.befores → c.before ≤ high → AreInOrder 0 high (with_kept c own).befores
order_put c own high order le =
    wider 0 c.before high (own.befores ++ replicate (c.place + 1 - length own.befores) c.before) le
    (in_order_more (c.place + 1 - length own.befores) c.before 0 own.befores (omega arith) order)

-- it is of a UID that was given
pub given_put : (next : ℕ) (c : KeptChange) (own : Own) → length own.befores ≤ c.place → WasGiven next c.uid → AreOfGiven next own → AreOfGiven next (with_kept c own)
given_put next c own le given h uid k e = ⊎_elim
    (λ (is : (uid ≡ c.uid) × (c ≡ k)). (subst (WasGiven next) (sym is.0) given, last_stays c own le (λ u x f. (h u x f).1) uid k e))
    (λ (old : get own.latest uid ≡ Some k). ((h uid k old).0, last_old c own uid k (h uid k old).1))
    (last_put c own uid k e)

-- what is found still fits the mailbox
pub fits_put : (shared next : ℕ) (c : KeptChange) (own : Own) → length own.befores ≤ c.place → AreInOrder 0 c.before own.befores → c.before ≤ shared → WasGiven next c.uid
    → Fits shared next own → Fits shared next (with_kept c own)
fits_put shared next c own le order within given h = record {
  order = order_put c own shared order within;
  known = given_put next c own le given h.known;
}

pub fits_change : (shared next : ℕ) (s : SeenChange) (own : Own) → AreInOrder 0 s.before own.befores → s.before ≤ shared → WasGiven next s.uid
    → Fits shared next own → Fits shared next (with_change s own)
fits_change shared next s own order within given h =
    subst (Fits shared next) (sym (with_change-kept s own)) (fits_put shared next (next_change s own) own (omega arith) order within given h)

-- of UIDs that were given
abbrev pub AllAreGiven : (next : ℕ) → List SeenChange → Type 0
AllAreGiven next [] = Unit {0}
AllAreGiven next (s ∷ own) = WasGiven next s.uid × AllAreGiven next own

given_changes : (next : ℕ) (changes : List SeenChange) (own : Own) → AllAreGiven next changes → AreOfGiven next own → AreOfGiven next (with_changes changes own)
given_changes next [] own all h = h
given_changes next (s ∷ changes) own all h =
    given_changes next changes (with_change s own) all.1
    (subst (AreOfGiven next) (sym (with_change-kept s own)) (given_put next (next_change s own) own (omega arith) all.0 h))

pub given_found : (next : ℕ) (changes : List SeenChange) → AllAreGiven next changes → AreOfGiven next (found_in (numbered 0 changes))
given_found next changes all =
    subst (AreOfGiven next) (found_changes changes)
    (given_changes next changes no_own all (λ uid k e. absurd (let z : None ≡ Some k = sym (get-empty nat_cmp uid) ∙ e in cc z)))

pub fits_none : (shared next : ℕ) → Fits shared next no_own
fits_none shared next = record { order = tt; known = λ uid k e. absurd (let z : None ≡ Some k = sym (get-empty nat_cmp uid) ∙ e in cc z) }

-- ---- what a change drops

pub dropped_stays : DroppedStays
dropped_stays own c uid before apart next last =
    ap (place_if_free ((own.befores ++ replicate (c.place + 1 - length own.befores) c.before) ++ before ∷ [])) (got own.latest c.uid c uid ∙ ap (λ t. cond t (Some c) (get own.latest uid)) (ne_eqb uid c.uid (λ e. apart (sym e))))
    ∙ by (get own.latest uid) refl
  where
    one : own.befores ++ replicate (c.place + 1 - length own.befores) c.before ≡ own.befores ++ c.before ∷ []
    one = ap (λ n. own.befores ++ replicate n c.before) (let z : c.place + 1 - length own.befores ≡ 1 = omega (arith, next) in z)

    by : (o : Option KeptChange) → get own.latest uid ≡ o
        → place_if_free ((own.befores ++ replicate (c.place + 1 - length own.befores) c.before) ++ before ∷ []) o ≡ place_if_free (own.befores ++ c.before ∷ []) o
    by None e = refl
    by (Some k) e =
        let lt = last k e in
        let len = length-append own.befores (c.before ∷ []) in
        ap (λ b. cond (eqb b k.before) (Some k.place) None)
        (ap (λ l. get_or (l ++ before ∷ []) (k.place + 1) 0) one
        ∙ get_or_append_left (own.befores ++ c.before ∷ []) (before ∷ []) 0 (k.place + 1) (omega (arith, lt, len)))
