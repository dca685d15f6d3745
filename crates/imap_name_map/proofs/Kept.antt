-- Whether the same is kept of two maps.
use Rattle.std.proofs.Common.{◌≡◌, ℕ, ◌+◌, ◌<◌, Bool, true, false, cond, List, [], ◌∷◌, Option, Some, None, length, drop, Equal, refl, sym, ap, subst, ◌∙◌}
use Rattle.std.specs.Prelude.{◌↔◌, ◌==◌, IsTrue, option_and_then, slice_index_or}
use Rattle.std.specs.Ordering.{eq_by_cmp}
use Rattle.std.specs.FinMap as fin
use Rattle.std.specs.FinMap.{get-entries, empty_of_len, len-empty}
use Rattle.std.specs.FinMap.Entries.{find, is_sorted}
use Rattle.std.proofs.lemmas.Bool.{eqb-true}
use Rattle.std.proofs.lemmas.List.{drop_more, get_or_default}
use Rattle.std.specs.Cmp.{tied_itself}
use Rattle.imap_name_map.proofs.Maps.{found, placed}
use Rattle.imap_names.specs.Name.{Name}
use Rattle.imap_names.specs.Order.{Names, name_cmp}
use Rattle.imap_names.proofs.OrderLaws.{name_total, name_antisymmetric, tied}
use Rattle.imap_name_map.specs.Kept.{AreWithin, if_filled}
use Rattle.imap_user_map.specs.Finite.{keep}
use Rattle.imap_user_map.specs.Parts.{IsWithin}
use Rattle.imap_user_map.proofs.Within.{same_if_back, same_if_not, keep-some}

-- ---- the walk

module _ {X Y : Type 0} (kept : X → Option Y) (all others : List (Name × X)) where
  -- the entries before those that are left agree
  pub record IsWalked (rest : List (Name × X)) : Type 0 where
    pub before : (q : Name) (v : X) → find name_cmp q all ≡ Some v → find name_cmp q rest ≡ None → kept v ≡ option_and_then kept (find name_cmp q others)

  pub walk_begins : IsWalked all
  walk_begins = record { before = λ q v there gone. absurd (cc (sym there ∙ gone)) }

  some_one : (v w : X) → Some v ≡ Some w → v ≡ w
  some_one v w e = cc e

  pub walk_goes_on : (rest next : List (Name × X)) (name : Name) (value : X) → rest ≡ (name, value) ∷ next → find name_cmp name all ≡ Some value → kept value ≡ option_and_then kept (find name_cmp name others) → IsWalked rest → IsWalked next
  walk_goes_on rest next name value here found agrees h = record { before = λ q v there gone. by_test q v there gone (eq_by_cmp name_cmp q name) refl }
    where
      by_test : (q : Name) (v : X) → find name_cmp q all ≡ Some v → find name_cmp q next ≡ None → (b : Bool) → eq_by_cmp name_cmp q name ≡ b → kept v ≡ option_and_then kept (find name_cmp q others)
      by_test q v there gone true e =
          let same : q ≡ name = name_antisymmetric q name (tied _ e) in
          let one : v ≡ value = some_one v value (sym there ∙ ap (λ k. find name_cmp k all) same ∙ found) in
          ap kept one ∙ agrees ∙ ap (λ k. option_and_then kept (find name_cmp k others)) (sym same)
      by_test q v there gone false e =
          h.before q v there (ap (find name_cmp q) here ∙ ap (λ b. cond b (Some value) (find name_cmp q next)) e ∙ gone)

  pub walk_ends : IsWalked [] → AreWithin kept all others
  walk_ends h name v there = h.before name v there refl

-- the entry at a place of a list in order
module _ {X : Type 0} (es : List (Name × X)) (i : ℕ) (x : Name × X) (sorted : IsTrue (is_sorted name_cmp es)) (within : i < length es) (is : x ≡ slice_index_or es i x) where
  pub item_found : find name_cmp x.0 es ≡ Some x.1
  item_found =
      sym (found es x.0 i x (placed es x.0 i sorted (within, λ d. subst (λ z. name_cmp z.0 x.0 ≡ Equal) (is ∙ get_or_default es i x d within) (tied_itself name_total x.0))) is)

  pub item_first : drop i es ≡ x ∷ drop (i + 1) es
  item_first = drop_more es i x within ∙ ap (λ y. y ∷ drop (i + 1) es) (sym is)

-- ---- maps

module _ {X Y : Type 0} (kept : X → Option Y) where
  pub by_entries : (m n : Names X) → AreWithin kept (fin.entries m) (fin.entries n) → IsWithin kept m n
  by_entries m n h key v there = h key v (sym (get-entries m key) ∙ there) ∙ ap (option_and_then kept) (sym (get-entries n key))

  pub to_entries : (m n : Names X) → IsWithin kept m n → AreWithin kept (fin.entries m) (fin.entries n)
  to_entries m n h key v there = h key v (get-entries m key ∙ there) ∙ ap (option_and_then kept) (get-entries n key)

  module _ (m n : Names X) (es os : List (Name × X)) (first : es ≡ fin.entries m) (second : os ≡ fin.entries n) where
    forth : AreWithin kept es os → IsWithin kept m n
    forth h = by_entries m n (subst (λ l. AreWithin kept (fin.entries m) l) second (subst (λ l. AreWithin kept l os) first h))

    back : AreWithin kept os es → IsWithin kept n m
    back h = by_entries n m (subst (λ l. AreWithin kept (fin.entries n) l) first (subst (λ l. AreWithin kept l es) second h))

    from_maps : IsWithin kept m n → AreWithin kept es os
    from_maps h = subst (λ l. AreWithin kept es l) (sym second) (subst (λ l. AreWithin kept l (fin.entries n)) (sym first) (to_entries m n h))

    to_back : IsWithin kept n m → AreWithin kept os es
    to_back h = subst (λ l. AreWithin kept os l) (sym first) (subst (λ l. AreWithin kept l (fin.entries m)) (sym second) (to_entries n m h))

    -- the lists are the entries of the maps
    pub maps_same : (b : Bool) → AreWithin kept es os → (IsTrue b ↔ AreWithin kept os es) → (IsTrue b ↔ (keep (λ key. kept) m ≡ keep (λ key. kept) n))
    maps_same b h is = same_if_back name_total name_antisymmetric kept m n m n b refl refl (forth h) (λ t. back (is.0 t), λ k. is.1 (to_back k))

    pub maps_differ : (b : Bool) → b ≡ false → (AreWithin kept es os → IsTrue b) → (IsTrue b ↔ (keep (λ key. kept) m ≡ keep (λ key. kept) n))
    maps_differ b fails is = same_if_not name_total name_antisymmetric kept m n m b refl fails (λ h. is (from_maps h))

-- ---- sets

module _ {X : Type 0} where
  filled_by : (m : Names X) (b : Bool) → (fin.len m == 0) ≡ b → if_filled m ≡ cond b None (Some m)
  filled_by m b e = ap (λ t. cond t None (Some m)) e

  empty_by : (m : Names X) → (fin.len m == 0) ≡ true → m ≡ fin.empty
  empty_by m e = empty_of_len m (eqb-true _ _ e)

  filled_same : (m n : Names X) → if_filled m ≡ if_filled n → m ≡ n
  filled_same m n e = by (fin.len m == 0) refl (fin.len n == 0) refl
    where
      by : (a : Bool) → (fin.len m == 0) ≡ a → (b : Bool) → (fin.len n == 0) ≡ b → m ≡ n
      by true f true g = empty_by m f ∙ sym (empty_by n g)
      by true f false g = absurd (cc (sym (filled_by m true f) ∙ e ∙ filled_by n false g))
      by false f true g = absurd (cc (sym (filled_by m false f) ∙ e ∙ filled_by n true g))
      by false f false g = cc (sym (filled_by m false f) ∙ e ∙ filled_by n false g)

  pub sets_same : (m n : Names X) (r : Bool) → (IsTrue r ↔ (keep (λ key. Some) m ≡ keep (λ key. Some) n)) → (IsTrue r ↔ (if_filled m ≡ if_filled n))
  sets_same m n r is = (
    λ t. ap if_filled (sym (keep-some name_total name_antisymmetric m) ∙ is.0 t ∙ keep-some name_total name_antisymmetric n),
    λ e. is.1 (ap (keep (λ key. Some)) (filled_same m n e)),
  )

  pub set_is_empty : (m : Names X) (r : Bool) → (IsTrue r ↔ (m ≡ fin.empty)) → (IsTrue r ↔ (if_filled m ≡ None))
  set_is_empty m r is =
      (λ t. filled_by m true (ap (λ k. fin.len k == 0) (is.0 t) ∙ ap (λ l. l == 0) (len-empty name_cmp X)), λ e. is.1 (by e (fin.len m == 0) refl))
    where
      by : if_filled m ≡ None → (b : Bool) → (fin.len m == 0) ≡ b → m ≡ fin.empty
      by e true f = empty_by m f
      by e false f = absurd (cc (sym (filled_by m false f) ∙ e))
