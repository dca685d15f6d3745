-- Entries that are set in the run of a name, which stands at the end of the list meanwhile.
use Rattle.std.proofs.Common.{◌≡◌, ℕ, zero, suc, ◌+◌, ◌-◌, ◌<◌, ◌≤◌, List, [], ◌∷◌, ◌++◌, Bool, true, false, cond, not, T, IsTrue, Some, None, length, take, drop, set, get_or, Less, Equal, Greater, is_lt, is_eq, refl, sym, ap, subst, ◌∙◌, arith}
use Rattle.std.specs.Prelude.{◌↔◌, insert}
use Rattle.std.proofs.lemmas.Bool.{and_parts}
use Rattle.std.proofs.lemmas.List.{take_at, drop_at, length-append, length-take-le}
use Rattle.std.specs.Ordering.{eq_by_cmp}
use Rattle.std.specs.FinMap as fin
use Rattle.std.specs.FinMap.{same_map, get-insert}
use Rattle.std.specs.FinMap.Entries.{by_order, find, put, is_sorted, find-put, find-where_key}
use Rattle.imap_names.specs.Name.{Name}
use Rattle.imap_names.specs.Order.{Names, name_cmp, run_cmp, is_within}
use Rattle.imap_names.proofs.OrderLaws.{name_total, name_antisymmetric, tied, run_apart}
use Rattle.imap_name_map.specs.Cuts.{leading, before, IsGap}
use Rattle.imap_name_map.specs.Rows.{inserted_all, put_all, entries_within}
use Rattle.imap_name_map.specs.Renaming.{entries_apart, with_run}
use Rattle.imap_name_map.proofs.Cuts.{second, holds, is_true, less, rising, find_gap}
use Rattle.imap_name_map.proofs.Blocks.{AllIn, NoneIn, with_run_sorted, find_with_run, not_at}
use Rattle.imap_name_map.proofs.Maps.{map_of, get_of, sorted_put, sorted_where}
use Rattle.imap_name_map.proofs.Runs.{all_within}

-- ---- an edit behind a front that stays

module _ {A : Type 0} where
  pub set_later : (xs : List A) (n i : ℕ) (x : A) → n ≤ length xs → set xs (n + i) x ≡ take n xs ++ set (drop n xs) i x
  set_later xs zero i x h = ap (λ m. set xs m x) (let e : 0 + i ≡ i = omega arith in e)
  set_later [] (suc n) i x h = absurd (omega (arith, h))
  set_later (y ∷ xs) (suc n) i x h = ap (λ m. set (y ∷ xs) m x) (let e : suc n + i ≡ suc (n + i) = omega arith in e) ∙ ap (λ l. y ∷ l) (set_later xs n i x (omega (arith, h)))

  pub insert_later : (xs : List A) (n i : ℕ) (x : A) → n ≤ length xs → insert xs (n + i) x ≡ take n xs ++ insert (drop n xs) i x
  insert_later xs zero i x h = ap (λ m. insert xs m x) (let e : 0 + i ≡ i = omega arith in e)
  insert_later [] (suc n) i x h = absurd (omega (arith, h))
  insert_later (y ∷ xs) (suc n) i x h = ap (λ m. insert (y ∷ xs) m x) (let e : suc n + i ≡ suc (n + i) = omega arith in e) ∙ ap (λ l. y ∷ l) (insert_later xs n i x (omega (arith, h)))

  pub get_later : (xs : List A) (n i : ℕ) (d : A) → n ≤ length xs → get_or xs (n + i) d ≡ get_or (drop n xs) i d
  get_later xs zero i d h = ap (λ m. get_or xs m d) (let e : 0 + i ≡ i = omega arith in e)
  get_later [] (suc n) i d h = absurd (omega (arith, h))
  get_later (y ∷ xs) (suc n) i d h = ap (λ m. get_or (y ∷ xs) m d) (let e : suc n + i ≡ suc (n + i) = omega arith in e) ∙ get_later xs n i d (omega (arith, h))

  pub same_front : (xs made ys : List A) (n : ℕ) → n ≤ length xs → made ≡ take n xs ++ ys → take n made ≡ take n xs
  same_front xs made ys n h is = ap (take n) is ∙ take_at (take n xs) ys n (length-take-le n xs h)

  pub new_back : (xs made ys : List A) (n : ℕ) → n ≤ length xs → made ≡ take n xs ++ ys → drop n made ≡ ys
  new_back xs made ys n h is = ap (drop n) is ∙ drop_at (take n xs) ys n (length-take-le n xs h)

  pub front_within : (xs made ys : List A) (n : ℕ) → n ≤ length xs → made ≡ take n xs ++ ys → n ≤ length made
  front_within xs made ys n h is = let l = ap length is ∙ length-append (take n xs) ys in let t = length-take-le n xs h in omega (arith, l, t)

  pub nothing_left : (xs : List A) (n : ℕ) → n ≡ length xs → n ≡ 0 → xs ≡ []
  nothing_left [] n is none = refl
  nothing_left (x ∷ xs) n is none = absurd (omega (arith, is, none))

-- ---- a name after all entries

all_pass : {A : Type 0} (p : A → Bool) (xs : List A) (i : ℕ) (d : A) → leading p xs ≡ length xs → i < length xs → p (get_or xs i d) ≡ true
all_pass p [] i d all within = absurd (omega (arith, within))
all_pass p (x ∷ xs) i d all within = by (p x) refl i within all (λ j rest less. all_pass p xs j d rest less)
  where
    by : (b : Bool) → p x ≡ b → (i : ℕ) → i < length (x ∷ xs) → cond b (suc (leading p xs)) 0 ≡ suc (length xs) → ((j : ℕ) → leading p xs ≡ length xs → j < length xs → p (get_or xs j d) ≡ true) → p (get_or (x ∷ xs) i d) ≡ true
    by true e zero within all later = e
    by true e (suc i) within all later = later i (omega (arith, all)) (omega (arith, within))
    by false e i within all later = absurd (omega (arith, all))

module _ {X : Type 0} (k : Name) where
  all_before : (es : List (Name × X)) (last : Name × X) → T (is_sorted name_cmp es) → 0 < length es → last ≡ get_or es (length es - 1) last → name_cmp last.0 k ≡ Less → before (λ x. name_cmp x k) es ≡ length es
  all_before [] last s some is p = absurd (omega (arith, some))
  all_before (e ∷ []) last s some is p = ap (λ r. cond (is_lt r) 1 0) (ap (λ x. name_cmp x.0 k) (sym is) ∙ p)
  all_before (e ∷ f ∷ es) last s some is p =
      let end : length (e ∷ f ∷ es) - 1 ≡ suc (length es) = omega arith in
      let later : length es ≡ length (f ∷ es) - 1 = omega arith in
      let at : last ≡ get_or (e ∷ f ∷ es) (suc (length es)) last = is ∙ ap (λ n. get_or (e ∷ f ∷ es) n last) end in
      let lt : name_cmp e.0 last.0 ≡ Less = ap (λ x. name_cmp e.0 x.0) at ∙ rising name_cmp (e ∷ f ∷ es) 0 (suc (length es)) last s (omega arith) (omega arith) in
      let rest : before (λ x. name_cmp x k) (f ∷ es) ≡ length (f ∷ es) = all_before (f ∷ es) last (second _ _ s) (omega arith) (at ∙ ap (λ n. get_or (f ∷ es) n last) later) p in
      ap (λ r. cond (is_lt r) (suc (before (λ x. name_cmp x k) (f ∷ es))) 0) (name_total.trans e.0 last.0 k lt p) ∙ ap (λ n. suc n) rest

  pub last_decides : (es : List (Name × X)) (last : Name × X) (test : Bool) → IsTrue (is_sorted name_cmp es) → 0 < length es → last ≡ get_or es (length es - 1) last → test ≡ is_lt (name_cmp last.0 k) → (test ≡ true) ↔ (before (λ x. name_cmp x k) es ≡ length es)
  last_decides es last test sorted some is says = (
    λ t. all_before es last (holds sorted) some is (less _ (holds (sym says ∙ t))),
    λ all. says ∙ ap (λ x. is_lt (name_cmp x.0 k)) is ∙ all_pass (λ e. is_lt (name_cmp e.0 k)) es (length es - 1) last all (omega (arith, some)),
  )

  pub gap_at_end : (es : List (Name × X)) (place : ℕ) → IsTrue (is_sorted name_cmp es) → place ≡ length es → before (λ x. name_cmp x k) es ≡ length es → IsGap k es place
  gap_at_end [] place sorted is all = (is, omega (arith, is), refl)
  gap_at_end (e ∷ es) place sorted is all = (
    is ∙ sym all,
    omega (arith, is),
    find_gap name_total k (e ∷ es) e (holds sorted) (λ within at. omega (arith, within, all)),
  )

-- ---- many entries that are set

module _ {X : Type 0} where
  pub sorted_put_all : (es more : List (Name × X)) → IsTrue (is_sorted name_cmp es) → IsTrue (is_sorted name_cmp (put_all es more))
  sorted_put_all es [] h = h
  sorted_put_all es (e ∷ more) h = sorted_put_all (put name_cmp e.0 e.1 es) more (sorted_put es e.0 e.1 h)

  -- what is found among them is found in the map
  find_put_all : (q : Name) (m : Names X) (es more : List (Name × X)) → find name_cmp q es ≡ fin.get m q → find name_cmp q (put_all es more) ≡ fin.get (inserted_all m more) q
  find_put_all q m es [] h = h
  find_put_all q m es (e ∷ more) h =
      find_put_all q (fin.insert m e.0 e.1) (put name_cmp e.0 e.1 es) more
      (find-put name_cmp name_total q e.0 e.1 es ∙ ap (cond (eq_by_cmp name_cmp q e.0) (Some e.1)) h ∙ sym (get-insert name_total m e.0 e.1 q))

  module _ (top : Name) where
    abbrev Within : List (Name × X) → Type 0
    Within es = AllIn name_cmp name_total (λ x. run_cmp x top) (run_apart top) es

    abbrev Without : List (Name × X) → Type 0
    Without es = NoneIn name_cmp name_total (λ x. run_cmp x top) (run_apart top) es

    within_put : (k : Name) (v : X) (es : List (Name × X)) → run_cmp k top ≡ Equal → Within es → Within (put name_cmp k v es)
    within_put k v [] p all = (p, tt)
    within_put k v (e ∷ es) p all =
        elim (name_cmp k e.0) as (λ r. Within (by_order r ((k, v) ∷ e ∷ es) ((e.0, v) ∷ es) (e ∷ put name_cmp k v es))) [
          | Less ↦ (p, all)
          | Equal ↦ (all.0, all.1)
          | Greater ↦ (all.0, within_put k v es p all.1)
        ]

    within_put_all : (es more : List (Name × X)) → Within es → all_within top more ≡ true → Within (put_all es more)
    within_put_all es [] all h = all
    within_put_all es (e ∷ more) all h =
        within_put_all (put name_cmp e.0 e.1 es) more (within_put e.0 e.1 es (tied (run_cmp e.0 top) (and_parts _ _ h).0) all) (and_parts _ _ h).1

    within_entries : (es : List (Name × X)) → Within (entries_within top es)
    within_entries [] = tt
    within_entries (e ∷ es) =
        elim (is_within top e.0) as (λ b. is_within top e.0 ≡ b → Within (cond b (e ∷ entries_within top es) (entries_within top es))) [
          | true ↦ λ p. (tied (run_cmp e.0 top) p, within_entries es)
          | false ↦ λ p. within_entries es
        ] refl

    without_entries : (es : List (Name × X)) → Without (entries_apart top es)
    without_entries [] = tt
    without_entries (e ∷ es) =
        elim (is_within top e.0) as (λ b. is_within top e.0 ≡ b → Without (cond (not b) (e ∷ entries_apart top es) (entries_apart top es))) [
          | true ↦ λ p. without_entries es
          | false ↦ λ p. (p, without_entries es)
        ] refl

    -- a name that isn't in the run has what it had
    get_outside : (q : Name) (m : Names X) (more : List (Name × X)) → is_within top q ≡ false → all_within top more ≡ true → fin.get (inserted_all m more) q ≡ fin.get m q
    get_outside q m [] out h = refl
    get_outside q m (e ∷ more) out h =
        get_outside q (fin.insert m e.0 e.1) more out (and_parts _ _ h).1
        ∙ get-insert name_total m e.0 e.1 q
        ∙ ap (λ b. cond b (Some e.1) (fin.get m q))
        (not_at name_cmp name_total (λ x. run_cmp x top) (run_apart top) q e.0 (λ s. let f : is_within top q ≡ true = ap is_eq s ∙ (and_parts _ _ h).0 in let g = sym f ∙ out in absurd (cc)))

    module _ (es made more : List (Name × X)) (h : IsTrue (is_sorted name_cmp es)) (all : all_within top more ≡ true) (is : made ≡ with_run (λ x. run_cmp x top) (put_all (entries_within top es) more) (entries_apart top es)) where
      run_within : Within (put_all (entries_within top es) more)
      run_within = within_put_all (entries_within top es) more (within_entries es) all

      pub run_put_sorted : IsTrue (is_sorted name_cmp made)
      run_put_sorted =
          subst (λ l. IsTrue (is_sorted name_cmp l)) (sym is)
          (is_true _ (with_run_sorted name_cmp name_total (λ x. run_cmp x top) (run_apart top) (put_all (entries_within top es) more) (entries_apart top es)
          (holds (sorted_put_all (entries_within top es) more (sorted_where (is_within top) es h))) run_within
          (holds (sorted_where (λ k. not (is_within top k)) es h)) (without_entries es)))

      inside : (q : Name) → is_within top q ≡ true → find name_cmp q (put_all (entries_within top es) more) ≡ fin.get (inserted_all (map_of es) more) q
      inside q e =
          find_put_all q (map_of es) (entries_within top es) more
          (find-where_key name_cmp (is_within top) q (λ x t. ap (is_within top) (sym (name_antisymmetric q x t))) es
          ∙ ap (λ b. cond b (find name_cmp q es) None) e ∙ sym (get_of es q h))

      outside : (q : Name) → is_within top q ≡ false → find name_cmp q (entries_apart top es) ≡ fin.get (inserted_all (map_of es) more) q
      outside q e =
          find-where_key name_cmp (λ k. not (is_within top k)) q (λ x t. ap (λ k. not (is_within top k)) (sym (name_antisymmetric q x t))) es
          ∙ ap (λ b. cond (not b) (find name_cmp q es) None) e ∙ sym (get_of es q h) ∙ sym (get_outside q (map_of es) more e all)

      pub run_put_made : map_of made ≡ inserted_all (map_of es) more
      run_put_made =
          same_map name_total name_antisymmetric (map_of made) (inserted_all (map_of es) more)
          (λ q. get_of made q run_put_sorted ∙ ap (find name_cmp q) is
          ∙ find_with_run name_cmp name_total (λ x. run_cmp x top) (run_apart top) q (put_all (entries_within top es) more) (entries_apart top es) run_within (without_entries es)
          ∙ by q (is_within top q) refl)
        where
          by : (q : Name) (b : Bool) → is_within top q ≡ b → cond b (find name_cmp q (put_all (entries_within top es) more)) (find name_cmp q (entries_apart top es)) ≡ fin.get (inserted_all (map_of es) more) q
          by q true e = inside q e
          by q false e = outside q e

  -- ---- the steps of the code

  module _ (top : Name) (es back set_there : List (Name × X)) (more : List (Name × X)) (others : ℕ) (h : IsTrue (is_sorted name_cmp es)) (is : back ≡ entries_apart top es ++ entries_within top es) (at : others ≡ length (entries_apart top es)) where
    front_apart : take others back ≡ entries_apart top es
    front_apart = ap (take others) is ∙ take_at (entries_apart top es) (entries_within top es) others (sym at)

    back_within : drop others back ≡ entries_within top es
    back_within = ap (drop others) is ∙ drop_at (entries_apart top es) (entries_within top es) others (sym at)

    pub others_within : others ≤ length back
    others_within = let l = ap length is ∙ length-append (entries_apart top es) (entries_within top es) in omega (arith, l, at)

    pub back_sorted : IsTrue (is_sorted name_cmp (drop others back))
    back_sorted = subst (λ l. IsTrue (is_sorted name_cmp l)) (sym back_within) (sorted_where (is_within top) es h)

    module _ (made : set_there ≡ take others back ++ put_all (drop others back) more) where
      front_stays : take others set_there ≡ entries_apart top es
      front_stays = same_front back set_there (put_all (drop others back) more) others others_within made ∙ front_apart

      pub others_within_still : others ≤ length set_there
      others_within_still = front_within back set_there (put_all (drop others back) more) others others_within made

      pub front_sorted : IsTrue (is_sorted name_cmp (take others set_there))
      front_sorted = subst (λ l. IsTrue (is_sorted name_cmp l)) (sym front_stays) (sorted_where (λ k. not (is_within top k)) es h)

      pub run_put : with_run (λ x. run_cmp x top) (drop others set_there) (take others set_there) ≡ with_run (λ x. run_cmp x top) (put_all (entries_within top es) more) (entries_apart top es)
      run_put =
          let end : drop others set_there ≡ put_all (entries_within top es) more =
          new_back back set_there (put_all (drop others back) more) others others_within made ∙ ap (λ l. put_all l more) back_within in
          λ i. with_run (λ x. run_cmp x top) (end i) (front_stays i)
