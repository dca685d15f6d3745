-- The own changes of all users in one list.
use Rattle.std.proofs.Common.{◌≡◌, ◌≢◌, ◌≤◌, ◌+◌, ◌-◌, ◌⊎◌, inl, inr, ℕ, suc, Bool, true, false, cond, List, [], ◌∷◌, ◌++◌, map as map_list, replicate, Option, Some, None, unwrap_or, refl, sym, ap, subst, ◌∙◌, arith, true≢false}
use Rattle.std.specs.Prelude.{bytes_eq}
use Rattle.std.specs.FinMap as map
use Rattle.std.specs.Ordering.{eq_by_cmp, nat_cmp}
use Rattle.std.specs.Cmp.Lexicographic.{nat_list_cmp_total, slice_cmp}
use Rattle.std.specs.FinMap.{nat_cmp-IsAntisymmetric, slice_cmp-IsAntisymmetric}
use Rattle.std.proofs.lemmas.List.Elements.{filter-append}
use Rattle.std.proofs.lemmas.Map.Text.{is_eq-slice_cmp}
use Rattle.std.proofs.lemmas.Slice.Eq.{bytes_eq-Decides}
use Rattle.sqlite_rules.specs.Lists.{Has}
use Rattle.sqlite_rules.proofs.ProbeLemmas.{has_mapped, mapped_has}
use Rattle.imap_mailbox.specs.declared.kept_change.KeptChange.{KeptChange}
use Rattle.imap_mailbox.specs.KeptRows.{AreKept}
use Rattle.imap_mailbox.specs.Own.{Own, filled, found_in, no_own}
use Rattle.imap_mailbox.specs.Parts.{AreInPlace}
use Rattle.imap_mailbox.specs.Summary.{Summary}
use Rattle.imap_mailbox.specs.UserChange.{UserChange, of_user, row_of, rows_of_user}
use Rattle.imap_records.specs.Standing.{AreFound, Kept}
use Rattle.imap_restore.proofs.Keyed.{Apart, apart_mapped, entries_apart}
use Rattle.imap_restore.proofs.Listed.{get_entry}
use Rattle.imap_restore.proofs.UserChanges.{change_of}

-- ---- lists that are joined

pub has_front : {X : Type 0} (xs ys : List X) (x : X) → Has xs x → Has (xs ++ ys) x
has_front [] ys x h = absurd h
has_front (z ∷ xs) ys x (inl is) = inl is
has_front (z ∷ xs) ys x (inr h) = inr (has_front xs ys x h)

pub has_back : {X : Type 0} (xs ys : List X) (x : X) → Has ys x → Has (xs ++ ys) x
has_back [] ys x h = h
has_back (z ∷ xs) ys x h = inr (has_back xs ys x h)

pub has_joined : {X : Type 0} (P : X → Type 0) (xs ys : List X) → ((x : X) → Has xs x → P x) → ((x : X) → Has ys x → P x) → (x : X) → Has (xs ++ ys) x → P x
has_joined P [] ys a b x h = b x h
has_joined P (z ∷ xs) ys a b x (inl is) = a x (inl is)
has_joined P (z ∷ xs) ys a b x (inr h) = has_joined P xs ys (λ y k. a y (inr k)) b x h

pub apart_joined : {X K : Type 0} (f : X → K) (xs ys : List X) → Apart f xs → Apart f ys → ((x y : X) → Has xs x → Has ys y → f x ≢ f y) → Apart f (xs ++ ys)
apart_joined f [] ys a b differ = b
apart_joined f (z ∷ xs) ys a b differ = (
  has_joined (λ y. f z ≢ f y) xs ys a.0 (λ y h. differ z y (inl refl) h),
  apart_joined f xs ys a.1 b (λ x y hx hy. differ x y (inr hx) hy),
)

-- ---- a user's own changes

abbrev pub place_of : UserChange → List ℕ × ℕ
place_of c = (c.user, c.place)

abbrev pub changes_for : (user : List ℕ) → List KeptChange → List UserChange
changes_for user kept = map_list (change_of user) kept

rows_again : (user : List ℕ) (kept : List KeptChange) → map_list row_of (changes_for user kept) ≡ kept
rows_again user [] = refl
rows_again user (k ∷ kept) = ap (λ l. k ∷ l) (rows_again user kept)

user_of : (user : List ℕ) (kept : List KeptChange) (c : UserChange) → Has (changes_for user kept) c → (k : KeptChange) × Has kept k × (c ≡ change_of user k)
user_of user kept c h = has_mapped (change_of user) kept c h

later_of : (user : List ℕ) (kept : List KeptChange) (done low high : ℕ) → AreKept done low high kept → (c : UserChange) → Has (changes_for user kept) c → done ≤ c.place
later_of user [] done low high h c none = absurd none
later_of user (k ∷ kept) done low high h c (inl is) = let at = h.0.place in let same = ap (λ (d : UserChange). d.place) is in omega (arith, at, same)
later_of user (k ∷ kept) done low high h c (inr there) = let at = h.0.place in let more = later_of user kept (k.place + 1) k.before high h.1 c there in omega (arith, at, more)

own_apart : (user : List ℕ) (kept : List KeptChange) (done low high : ℕ) → AreKept done low high kept → Apart place_of (changes_for user kept)
own_apart user [] done low high h = tt
own_apart user (k ∷ kept) done low high h = (
  λ y there e.
      let more = later_of user kept (k.place + 1) k.before high h.1 y there in
      let same : k.place ≡ y.place = ap (λ (t : List ℕ × ℕ). t.1) e in
      omega (arith, more, same),
  own_apart user kept (k.place + 1) k.before high h.1,
)

filter_all : (user : List ℕ) (kept : List KeptChange) (q : List ℕ) → bytes_eq user q ≡ true → of_user q (changes_for user kept) ≡ changes_for user kept
filter_all user [] q same = refl
filter_all user (k ∷ kept) q same =
    ap (λ b. cond b (change_of user k ∷ of_user q (changes_for user kept)) (of_user q (changes_for user kept))) same ∙ ap (λ l. change_of user k ∷ l) (filter_all user kept q same)

filter_none : (user : List ℕ) (kept : List KeptChange) (q : List ℕ) → bytes_eq user q ≡ false → of_user q (changes_for user kept) ≡ []
filter_none user [] q other = refl
filter_none user (k ∷ kept) q other =
    ap (λ b. cond b (change_of user k ∷ of_user q (changes_for user kept)) (of_user q (changes_for user kept))) other ∙ filter_none user kept q other

-- ---- of all users

abbrev pub flat : Kept → List (List ℕ) → List UserChange
flat kept [] = []
flat kept (u ∷ us) = changes_for u (kept u) ++ flat kept us

in_flat : (kept : Kept) (us : List (List ℕ)) (c : UserChange) → Has (flat kept us) c → Has us c.user × ((k : KeptChange) × Has (kept c.user) k × (c ≡ change_of c.user k))
in_flat kept [] c h = absurd h
in_flat kept (u ∷ us) c h =
    has_joined (λ (c : UserChange). Has (u ∷ us) c.user × ((k : KeptChange) × Has (kept c.user) k × (c ≡ change_of c.user k))) (changes_for u (kept u)) (flat kept us)
    (λ d there.
    let it = user_of u (kept u) d there in
    let same : d.user ≡ u = ap (λ (e : UserChange). e.user) it.2 in
    (inl same, (it.0, subst (λ q. Has (kept q) it.0) (sym same) it.1, it.2 ∙ ap (λ q. change_of q it.0) (sym same))))
    (λ d there. let it = in_flat kept us d there in (inr it.0, it.1)) c h

flat_has : (kept : Kept) (us : List (List ℕ)) (u : List ℕ) (k : KeptChange) → Has us u → Has (kept u) k → Has (flat kept us) (change_of u k)
flat_has kept [] u k none h = absurd none
flat_has kept (v ∷ us) u k (inl is) h =
    has_front (changes_for v (kept v)) (flat kept us) (change_of u k) (subst (λ q. Has (changes_for q (kept q)) (change_of u k)) is (mapped_has (change_of u) (kept u) k h))
flat_has kept (v ∷ us) u k (inr there) h = has_back (changes_for v (kept v)) (flat kept us) (change_of u k) (flat_has kept us u k there h)

flat_apart : (kept : Kept) (shared : ℕ) → ((user : List ℕ) → AreKept 0 0 shared (kept user)) → (us : List (List ℕ)) → Apart (λ (q : List ℕ). q) us → Apart place_of (flat kept us)
flat_apart kept shared order [] a = tt
flat_apart kept shared order (u ∷ us) a =
    apart_joined place_of (changes_for u (kept u)) (flat kept us) (own_apart u (kept u) 0 0 shared (order u)) (flat_apart kept shared order us a.1)
    (λ x y hx hy same.
    let here = user_of u (kept u) x hx in
    let there = in_flat kept us y hy in
    a.0 y.user there.0 (sym (ap (λ (e : UserChange). e.user) here.2) ∙ ap (λ (t : List ℕ × ℕ). t.0) same))

not_same : (a b : List ℕ) → a ≢ b → bytes_eq a b ≡ false
not_same a b differ = by (bytes_eq a b) refl
  where
    by : (t : Bool) → bytes_eq a b ≡ t → bytes_eq a b ≡ false
    by true is = absurd (differ ((bytes_eq-Decides a b).0 is))
    by false is = is

app_nil : {X : Type 0} (xs : List X) → xs ++ [] ≡ xs
app_nil [] = refl
app_nil (x ∷ xs) = λ i. x ∷ app_nil xs i

absent : (kept : Kept) (us : List (List ℕ)) (q : List ℕ) → ((u : List ℕ) → Has us u → bytes_eq u q ≡ false) → of_user q (flat kept us) ≡ []
absent kept [] q none = refl
absent kept (u ∷ us) q none =
    filter-append (λ (c : UserChange). bytes_eq c.user q) (changes_for u (kept u)) (flat kept us)
    ∙ (λ i. filter_none u (kept u) q (none u (inl refl)) i ++ absent kept us q (λ d h. none d (inr h)) i)

-- a user's changes are found among those of all, if each user who has some is one of these
found_flat : (kept : Kept) (us : List (List ℕ)) (q : List ℕ) → Apart (λ (q : List ℕ). q) us → (((k : KeptChange) → Has (kept q) k → Has us q)) → of_user q (flat kept us) ≡ changes_for q (kept q)
found_flat kept [] q a there = by (kept q) there
  where
    by : (l : List KeptChange) → ((k : KeptChange) → Has l k → ⊥) → [] ≡ changes_for q l
    by [] none = refl
    by (k ∷ l) none = absurd (none k (inl refl))
found_flat kept (u ∷ us) q a there =
    filter-append (λ (c : UserChange). bytes_eq c.user q) (changes_for u (kept u)) (flat kept us)
    ∙ by (λ there. found_flat kept us q a.1 there) (bytes_eq q u) refl
  where
    later : bytes_eq q u ≡ false → (k : KeptChange) → Has (kept q) k → Has us q
    later other k h = not_first (there k h)
      where
        not_first : (q ≡ u) ⊎ Has us q → Has us q
        not_first (inl e) = absurd (true≢false (sym ((bytes_eq-Decides q u).1 e) ∙ other))
        not_first (inr h) = h

    by : (((k : KeptChange) → Has (kept q) k → Has us q) → of_user q (flat kept us) ≡ changes_for q (kept q)) → (b : Bool) → bytes_eq q u ≡ b
        → of_user q (changes_for u (kept u)) ++ of_user q (flat kept us) ≡ changes_for q (kept q)
    by rest true is =
        let same : q ≡ u = (bytes_eq-Decides q u).0 is in
        let back : bytes_eq u q ≡ true = (bytes_eq-Decides u q).1 (sym same) in
        (λ i. filter_all u (kept u) q back i ++ absent kept us q (λ d h. not_same d q (λ is_q. a.0 d h (sym same ∙ sym is_q))) i)
        ∙ app_nil (changes_for u (kept u))
        ∙ ap (λ v. changes_for v (kept v)) (sym same)
    by rest false is =
        (λ i. filter_none u (kept u) q (not_same u q (λ same. true≢false (sym ((bytes_eq-Decides q u).1 (sym same)) ∙ is))) i ++ rest (later is) i)

pub itself : (k : List ℕ) → eq_by_cmp (slice_cmp nat_cmp) k k ≡ true
itself k = is_eq-slice_cmp k k ∙ (bytes_eq-Decides k k).1 refl

module _ (kept : Kept) (s : Summary) (are : AreFound kept s) where
  users : List (List ℕ)
  users = map_list (λ (e : List ℕ × Own). e.0) (map.entries s.own)

  pub all_own : List UserChange
  all_own = flat kept users

  users_apart : Apart (λ (q : List ℕ). q) users
  unfolding users
  users_apart = apart_mapped (λ (e : List ℕ × Own). e.0) (λ (q : List ℕ). q) (map.entries s.own) (entries_apart (slice_cmp nat_cmp) itself s.own)

  some_found : (rows : List KeptChange) (k : KeptChange) → Has rows k → filled 0 rows ≡ [] → AreKept 0 0 s.shared rows → ⊥
  some_found [] k none e h = none
  some_found (r ∷ rows) k there e h = by (r.place + 1 - 0) (let z : r.place + 1 - 0 ≡ suc r.place = omega arith in z) e
    where
      by : (n : ℕ) → n ≡ suc r.place → replicate n r.before ++ filled (r.place + 1) rows ≡ [] → ⊥
      by n is e = let z : replicate (suc r.place) r.before ++ filled (r.place + 1) rows ≡ [] = ap (λ m. replicate m r.before ++ filled (r.place + 1) rows) (sym is) ∙ e in cc z

  -- who has a change is one of the users
  listed : (user : List ℕ) (k : KeptChange) → Has (kept user) k → Has users user
  unfolding users
  listed user k h = by (map.get s.own user) refl
    where
      by : (o : Option Own) → map.get s.own user ≡ o → Has (map_list (λ (e : List ℕ × Own). e.0) (map.entries s.own)) user
      by None is =
          absurd (some_found (kept user) k h (ap (λ (x : Own). x.befores) (are.found user ∙ ap (λ o. unwrap_or o no_own) is)) (are.order user))
      by (Some own) is =
          mapped_has (λ (e : List ℕ × Own). e.0) (map.entries s.own) (user, own)
          (get_entry (slice_cmp nat_cmp) nat_list_cmp_total (slice_cmp-IsAntisymmetric nat_cmp-IsAntisymmetric) itself s.own user own is)

  pub all_own_apart : Apart place_of all_own
  unfolding all_own
  all_own_apart = flat_apart kept s.shared are.order users users_apart

  pub all_own_of : AreInPlace s.shared all_own s.own
  unfolding all_own
  all_own_of user =
      let same : rows_of_user user (flat kept users) ≡ kept user = ap (map_list row_of) (found_flat kept users user users_apart (listed user)) ∙ rows_again user (kept user) in
      (subst (AreKept 0 0 s.shared) (sym same) (are.order user), ap found_in same ∙ are.found user)

  pub own_put : (user : List ℕ) (k : KeptChange) → Has (kept user) k → Has all_own (change_of user k)
  unfolding all_own
  own_put user k h = flat_has kept users user k (listed user k h) h

  pub own_taken : (c : UserChange) → Has all_own c → Has (kept c.user) (row_of c)
  unfolding all_own
  own_taken c h =
      let it = (in_flat kept users c h).1 in
      subst (Has (kept c.user)) (ap row_of (sym it.2)) it.1
