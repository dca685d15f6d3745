-- The own changes of all users, after a change of one.
use Rattle.std.proofs.Common.{◌≡◌, ◌⊎◌, inl, inr, ⊎_elim, ℕ, ◌<◌, List, [], ◌∷◌, length, Bool, true, false, cond, Option, Some, None, unwrap_or, refl, sym, ap, ◌∙◌, arith, ◌↔◌, IsTrue}
use Rattle.std.specs.Option.{option_map}
use Rattle.std.specs.Prelude.{option_and_then}
use Rattle.std.specs.Ordering.{nat_cmp, eq_by_cmp}
use Rattle.std.specs.Cmp.Lexicographic.{slice_cmp, nat_list_cmp_total}
use Rattle.std.proofs.lemmas.Map.Text.{is_eq-slice_cmp}
use Rattle.std.proofs.lemmas.Slice.Eq.{bytes_eq-Decides}
use Rattle.std.specs.FinMap.{get, insert, empty, entries, get-insert, get-empty, len-entries, len-empty, empty_of_len, slice_cmp-IsAntisymmetric, nat_cmp-IsAntisymmetric}
use Rattle.imap_user_map.specs.Rows.{Users}
use Rattle.imap_user_map.proofs.Entries.{same_answers}
use Rattle.imap_mailbox.specs.declared.kept_change.KeptChange.{KeptChange}
use Rattle.imap_mailbox.specs.Own.{Latest, Own, no_own}
use Rattle.imap_mailbox.specs.Owned.{Owned, some_if, if_any, owned_changes, changes_of}
use Rattle.imap_user_map.proofs.KeptValues.{get-keep}

abbrev pub same_bytes : List ℕ → List ℕ → Bool
same_bytes = eq_by_cmp (slice_cmp nat_cmp)

pub get_changes : (m : Users Owned) (q : List ℕ) → get (changes_of m) q ≡ option_and_then (owned_changes q) (get m q)
get_changes m q = get-keep (slice_cmp nat_cmp) owned_changes (slice_cmp-IsAntisymmetric nat_cmp-IsAntisymmetric) m q

-- ---- own changes, if there are any

none_entries : (m : Latest) → entries m ≡ [] → m ≡ empty
none_entries m e = empty_of_len m (len-entries m ∙ ap length e)

if_none : (befores : List ℕ) (latest : List (ℕ × KeptChange)) (own : Own) → some_if befores latest own ≡ None → (befores ≡ []) × (latest ≡ [])
if_none [] [] own e = (refl, refl)
if_none [] (x ∷ latest) own e = absurd (cc e)
if_none (b ∷ befores) latest own e = absurd (cc e)

pub none_if : (own : Own) → if_any own ≡ None → own ≡ no_own
none_if own e =
    let none = if_none own.befores (entries own.latest) own e in
    let last = none_entries own.latest none.1 in
    λ i. record { befores = none.0 i; latest = last i }

some_or : (befores : List ℕ) (latest : List (ℕ × KeptChange)) (own : Own) → (some_if befores latest own ≡ None) ⊎ (some_if befores latest own ≡ Some own)
some_or [] [] own = inl refl
some_or [] (x ∷ latest) own = inr refl
some_or (b ∷ befores) latest own = inr refl

pub any_or : (own : Own) → unwrap_or (if_any own) no_own ≡ own
any_or own = ⊎_elim
    (λ (none : if_any own ≡ None). ap (λ o. unwrap_or o no_own) none ∙ sym (none_if own none))
    (λ (some : if_any own ≡ Some own). ap (λ o. unwrap_or o no_own) some)
    (some_or own.befores (entries own.latest) own)

-- who has a change has some
pub any_there : (own : Own) → 0 < length own.befores → if_any own ≡ Some own
any_there own some = ⊎_elim
    (λ (none : if_any own ≡ None). absurd (let z = ap length (if_none own.befores (entries own.latest) own none).0 in omega (arith, some, z)))
    (λ (is : if_any own ≡ Some own). is)
    (some_or own.befores (entries own.latest) own)

-- the same is kept of the same changes
pub same_part : (a b : Own) (t : Bool) → (IsTrue t ↔ (a ≡ b)) → IsTrue t ↔ (if_any a ≡ if_any b)
same_part a b t h = ((λ is. ap if_any (h.0 is)), λ e. h.1 (sym (any_or a) ∙ ap (λ o. unwrap_or o no_own) e ∙ any_or b))

pub any_none : if_any no_own ≡ None
any_none = ap (λ (l : List (ℕ × KeptChange)). some_if [] l no_own) (by (entries empty) (sym (len-entries empty) ∙ len-empty nat_cmp KeptChange))
  where
    by : (l : List (ℕ × KeptChange)) → length l ≡ 0 → l ≡ []
    by [] e = refl
    by (x ∷ l) e = absurd (omega (arith, e))

pub none_part : (a : Own) (t : Bool) → (IsTrue t ↔ (a ≡ no_own)) → IsTrue t ↔ (if_any a ≡ None)
none_part a t h = ((λ is. ap if_any (h.0 is) ∙ any_none), λ e. h.1 (none_if a e))

-- the changes of a user, who may have none
pub changes_in : (m : Users Owned) (q : List ℕ) → unwrap_or (get (changes_of m) q) no_own ≡ unwrap_or (option_map (λ (o : Owned). o.own) (get m q)) no_own
changes_in m q = ap (λ o. unwrap_or o no_own) (get_changes m q) ∙ by (get m q)
  where
    by : (o : Option Owned) → unwrap_or (option_and_then (owned_changes q) o) no_own ≡ unwrap_or (option_map (λ (o : Owned). o.own) o) no_own
    by None = refl
    by (Some o) = any_or o.own

module _ (m : Users Owned) (k : List ℕ) (o : Owned) where
  -- what a user has who gets other changes
  put_at : (list : Option Own) → if_any o.own ≡ list → (q : List ℕ) → get (changes_of (insert m k o)) q ≡ cond (same_bytes q k) list (get (changes_of m) q)
  put_at list is q =
      get_changes (insert m k o) q ∙ ap (option_and_then (owned_changes q)) (get-insert nat_list_cmp_total m k o q)
      ∙ by (same_bytes q k) ∙ ap (cond (same_bytes q k) list) (sym (get_changes m q))
    where
      by : (b : Bool) → option_and_then (owned_changes q) (cond b (Some o) (get m q)) ≡ cond b list (option_and_then (owned_changes q) (get m q))
      by true = is
      by false = refl

  pub changes_put : (list : Own) → if_any o.own ≡ Some list → changes_of (insert m k o) ≡ insert (changes_of m) k list
  changes_put list is = same_answers _ _ (λ q. put_at (Some list) is q ∙ sym (get-insert nat_list_cmp_total (changes_of m) k list q))

  -- the changes that the user had anyway
  pub changes_same : if_any o.own ≡ option_and_then (owned_changes k) (get m k) → changes_of (insert m k o) ≡ changes_of m
  changes_same is = same_answers _ _ (λ q. put_at _ refl q ∙ by q (same_bytes q k) refl)
    where
      by : (q : List ℕ) (b : Bool) → same_bytes q k ≡ b → cond b (if_any o.own) (get (changes_of m) q) ≡ get (changes_of m) q
      by q true t = is ∙ sym (get_changes m k) ∙ ap (get (changes_of m)) (sym ((bytes_eq-Decides q k).0 (sym (is_eq-slice_cmp q k) ∙ t)))
      by q false t = refl

pub changes_empty : (m : Users Owned) → m ≡ empty → changes_of m ≡ empty
changes_empty m e = same_answers _ _ (λ q. get_changes m q ∙ ap (λ n. option_and_then (owned_changes q) (get n q)) e ∙ ap (option_and_then (owned_changes q)) (get-empty (slice_cmp nat_cmp) q) ∙ sym (get-empty (slice_cmp nat_cmp) q))

-- a key that was set has its value
pub get_set : {X : Type 0} (m : Users X) (k : List ℕ) (v : X) → get (insert m k v) k ≡ Some v
get_set m k v = get-insert nat_list_cmp_total m k v k ∙ ap (λ b. cond b (Some v) (get m k)) (is_eq-slice_cmp k k ∙ (bytes_eq-Decides k k).1 refl)
