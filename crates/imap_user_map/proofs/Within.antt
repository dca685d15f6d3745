-- Whether the same is kept of two maps.
use Rattle.std.proofs.Common.{◌≡◌, ℕ, Bool, true, false, List, [], ◌∷◌, Option, Some, None, refl, sym, ap, subst, ◌∙◌}
use Rattle.std.specs.Prelude.{option_and_then, IsTrue, ◌↔◌}
use Rattle.std.specs.declared.cmp.Ordering.{Ordering}
use Rattle.std.specs.Cmp.{IsTotalOrder}
use Rattle.std.specs.Str.{bytes_eq}
use Rattle.std.specs.FinMap.{FinMap, IsAntisymmetric, get, same_map}
use Rattle.std.specs.HashMap.{HashMap}
use Rattle.std.specs.List.{All}
use Rattle.std.specs.Map.{lookup}
use Rattle.std.specs.String.{string_bytes}
use Rattle.std.specs.declared.string.String.{String}
use Rattle.std.proofs.lemmas.List.Elements.{All-head, All-tail}
use Rattle.std.proofs.lemmas.Bool.{cond-false}
use Rattle.std.proofs.lemmas.Slice.Eq.{bytes_eq-Decides}
use Rattle.imap_user_map.specs.Finite.{keep}
use Rattle.imap_user_map.specs.Parts.{IsWithin}
use Rattle.imap_user_map.specs.Rows.{Users, by_octets}
use Rattle.imap_user_map.proofs.Entries.{IsEntry, is_at, get-by_octets}
use Rattle.imap_user_map.proofs.KeptValues.{get-keep}

module _ {K X Y : Type 0} {R : K → K → Ordering} (total : IsTotalOrder R) (anti : IsAntisymmetric R) (kept : X → Option Y) where
  at_key : (m : FinMap R X) (q : K) → get (keep (λ key. kept) m) q ≡ option_and_then kept (get m q)
  at_key m q = get-keep R (λ key. kept) anti m q

  within : (m n : FinMap R X) → keep (λ key. kept) m ≡ keep (λ key. kept) n → IsWithin kept m n
  within m n e key v there =
      sym (ap (option_and_then kept) there) ∙ sym (at_key m key) ∙ ap (λ k. get k key) e ∙ at_key n key

  by_values : (a b : Option X) → ((v : X) → a ≡ Some v → kept v ≡ option_and_then kept b) → ((v : X) → b ≡ Some v → kept v ≡ option_and_then kept a) → option_and_then kept a ≡ option_and_then kept b
  by_values None None f g = refl
  by_values None (Some w) f g = sym (g w refl)
  by_values (Some v) b f g = f v refl

  kept_same : (m n : FinMap R X) → IsWithin kept m n → IsWithin kept n m → keep (λ key. kept) m ≡ keep (λ key. kept) n
  kept_same m n f g = same_map total anti _ _ (λ q. at_key m q ∙ by_values (get m q) (get n q) (f q) (g q) ∙ sym (at_key n q))

  -- the maps as the walks have them are these, and the first lies within the second
  pub same_if_back : (m n m' n' : FinMap R X) (b : Bool) → m' ≡ m → n' ≡ n → IsWithin kept m' n → (IsTrue b ↔ IsWithin kept n' m) → (IsTrue b ↔ (keep (λ key. kept) m ≡ keep (λ key. kept) n))
  same_if_back m n m' n' b is other forth back = (
    λ t. kept_same m n (subst (λ k. IsWithin kept k n) is forth) (subst (λ k. IsWithin kept k m) other (back.0 t)),
    λ e. back.1 (subst (λ k. IsWithin kept k m) (sym other) (within n m (sym e))),
  )

  pub same_if_not : (m n m' : FinMap R X) (b : Bool) → m' ≡ m → b ≡ false → (IsWithin kept m' n → IsTrue b) → (IsTrue b ↔ (keep (λ key. kept) m ≡ keep (λ key. kept) n))
  same_if_not m n m' b is fails back = (λ t. absurd (cc (sym t ∙ fails)), λ e. back (subst (λ k. IsWithin kept k n) (sym is) (within m n e)))

module _ {X Y : Type 0} (kept : X → Option Y) where
  some_one : (v w : X) → Some v ≡ Some w → v ≡ w
  some_one v w e = cc e

  -- ---- the walk

  module _ {Z S : Type 0} (all : HashMap (String Z) X S) (other : Users X) where
    -- the entries that are left, each as the map has it; those before them agree with the other map
    pub record IsWalking (rest : List (String Z × X)) : Type 0 where
      pub entries : All (IsEntry all) rest
      pub before : (q : List ℕ) (v : X) → lookup (is_at q) all.entries ≡ Some v → lookup (is_at q) rest ≡ None → kept v ≡ option_and_then kept (get other q)

    pub walk_begins : All (IsEntry all) all.entries → IsWalking all.entries
    walk_begins each = record { entries = each; before = λ q v there gone. absurd (cc (sym there ∙ gone)) }

    pub walk_goes_on : (rest next : List (String Z × X)) (user : String Z) (value : X) → rest ≡ (user, value) ∷ next → kept value ≡ option_and_then kept (get other (string_bytes user)) → IsWalking rest → IsWalking next
    walk_goes_on rest next user value here agrees h =
        let now : IsWalking ((user, value) ∷ next) = subst IsWalking here h in record {
          entries = All-tail (IsEntry all) (user, value) next now.entries;
          before = λ q v there gone. by_test now q v there gone (bytes_eq q (string_bytes user)) refl;
        }
      where
        by_test : IsWalking ((user, value) ∷ next) → (q : List ℕ) (v : X) → lookup (is_at q) all.entries ≡ Some v → lookup (is_at q) next ≡ None → (b : Bool) → bytes_eq q (string_bytes user) ≡ b → kept v ≡ option_and_then kept (get other q)
        by_test now q v there gone true e =
            let same : q ≡ string_bytes user = (bytes_eq-Decides q (string_bytes user)).0 e in
            let found : lookup (is_at q) all.entries ≡ Some value = subst (λ k. lookup (is_at k) all.entries ≡ Some value) (sym same) (All-head (IsEntry all) (user, value) next now.entries) in
            let one : v ≡ value = some_one v value (sym there ∙ found) in
            ap kept one ∙ agrees ∙ ap (λ k. option_and_then kept (get other k)) (sym same)
        by_test now q v there gone false e = now.before q v there (cond-false (bytes_eq q (string_bytes user)) (Some value) (lookup (is_at q) next) e ∙ gone)

    pub walk_ends : IsWalking [] → IsWithin kept (by_octets all.entries) other
    walk_ends h user v there = h.before user v (sym (get-by_octets all.entries user) ∙ there) refl

    pub walk_fails : (rest next : List (String Z × X)) (user : String Z) (value : X) → rest ≡ (user, value) ∷ next → IsWalking rest → IsWithin kept (by_octets all.entries) other → kept value ≡ option_and_then kept (get other (string_bytes user))
    walk_fails rest next user value here h is =
        is (string_bytes user) value (get-by_octets all.entries (string_bytes user) ∙ All-head (IsEntry all) (user, value) next ((subst IsWalking here h).entries))

-- to keep each value is to keep the map
pub keep-some : {K X : Type 0} {R : K → K → Ordering} → IsTotalOrder R → IsAntisymmetric R → (m : FinMap R X) → keep (λ key. Some) m ≡ m
keep-some {K} {X} {R} total anti m = same_map total anti _ m (λ q. get-keep R (λ key. Some) anti m q ∙ itself (get m q))
  where
    itself : (o : Option X) → option_and_then Some o ≡ o
    itself None = refl
    itself (Some v) = refl
