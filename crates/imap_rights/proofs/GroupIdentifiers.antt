-- The identifiers that stand for the members of groups.
use Rattle.std.proofs.Common.{◌≡◌, ℕ, ◌<◌, Bool, true, false, cond, ◌&&◌, List, [], ◌∷◌, ◌++◌, drop, ◌⊎◌, inl, inr, Some, refl, sym, ap, subst, ◌∙◌, arith}
use Rattle.std.specs.Prelude.{bytes_eq, nat_eq, is_some}
use Rattle.std.specs.Ordering.{nat_cmp}
use Rattle.std.specs.Cmp.Lexicographic.{slice_cmp}
use Rattle.std.specs.FinMap as map
use Rattle.std.specs.FinMap.{get-empty}
use Rattle.std.specs.List.{Contains, starts_with}
use Rattle.std.proofs.lemmas.List.Elements.{Contains-append_left, Contains-push, Contains-push_cases}
use Rattle.std.proofs.lemmas.Slice.Eq.{bytes_eq-Decides}
use Rattle.imap_names.proofs.PrefixLaws.{begins}
use Rattle.imap_rights.specs.Groups.{AreIdentifiersOf, Names, group_prefix, is_group_in}
use Rattle.imap_rights.proofs.Members.{get_put}

both : (a b : Bool) → (a && b) ≡ true → (a ≡ true) × (b ≡ true)
both true b e = (refl, e)
both false b e = cc

neither : (a : Bool) → (a && false) ≡ true → ⊥
neither true e = absurd (cc)
neither false e = absurd (cc)

-- no group has no identifier
pub identifiers_of_none : (names : Names) → names ≡ map.empty → AreIdentifiersOf names []
identifiers_of_none names none subject = (
  λ e. absurd (neither (starts_with nat_eq subject group_prefix)
      (sym (ap (λ b. starts_with nat_eq subject group_prefix && b) (ap (λ (m : Names). is_some (map.get m (drop 6 subject))) none ∙ ap is_some (get-empty (slice_cmp nat_cmp) (drop 6 subject)))) ∙ e)),
  λ c. absurd (none_held subject c),
)
  where
    none_held : (subject : List ℕ) → Contains [] subject → ⊥
    none_held subject c = let l : c.0 < 0 = c.1 in absurd (omega arith)

module _ (names : Names) (name : List ℕ) where
  with_name : Names
  with_name = map.insert names name tt

  has_after : (group : List ℕ) → map.contains_key (map.insert names name tt) group ≡ cond (bytes_eq group name) true (map.contains_key names group)
  has_after group = ap is_some (get_put names name tt group) ∙ by (bytes_eq group name)
    where
      by : (b : Bool) → is_some (cond b (Some tt) (map.get names group)) ≡ cond b true (map.contains_key names group)
      by true = refl
      by false = refl

  own : is_group_in (map.insert names name tt) (group_prefix ++ name) ≡ true
  own = has_after name ∙ ap (λ b. cond b true (map.contains_key names name)) ((bytes_eq-Decides name name).1 refl)

  more : (subject : List ℕ) → is_group_in names subject ≡ true → is_group_in (map.insert names name tt) subject ≡ true
  more subject e =
      let parts = both (starts_with nat_eq subject group_prefix) (map.contains_key names (drop 6 subject)) e in
      ap (λ b. b && map.contains_key (map.insert names name tt) (drop 6 subject)) parts.0
      ∙ has_after (drop 6 subject) ∙ by (bytes_eq (drop 6 subject) name) parts.1
    where
      by : (b : Bool) → map.contains_key names (drop 6 subject) ≡ true → cond b true (map.contains_key names (drop 6 subject)) ≡ true
      by true e = refl
      by false e = e

  one_of : (subject : List ℕ) → is_group_in (map.insert names name tt) subject ≡ true → (is_group_in names subject ≡ true) ⊎ (group_prefix ++ name ≡ subject)
  one_of subject e = by (both (starts_with nat_eq subject group_prefix) (map.contains_key (map.insert names name tt) (drop 6 subject)) e) (bytes_eq (drop 6 subject) name) refl
    where
      by : (starts_with nat_eq subject group_prefix ≡ true) × (map.contains_key (map.insert names name tt) (drop 6 subject) ≡ true)
          → (b : Bool) → bytes_eq (drop 6 subject) name ≡ b → (is_group_in names subject ≡ true) ⊎ (group_prefix ++ name ≡ subject)
      by parts true same = inr (sym (begins subject group_prefix parts.0 ∙ ap (λ rest. group_prefix ++ rest) ((bytes_eq-Decides (drop 6 subject) name).0 same)))
      by parts false same =
          inl (ap (λ b. b && map.contains_key names (drop 6 subject)) parts.0
          ∙ sym (has_after (drop 6 subject) ∙ ap (λ b. cond b true (map.contains_key names (drop 6 subject))) same) ∙ parts.1)

  -- a name more has its identifier more
  pub identifiers_with : (identifiers : List (List ℕ)) (identifier : List ℕ) → AreIdentifiersOf names identifiers → identifier ≡ group_prefix ++ name
      → AreIdentifiersOf (map.insert names name tt) (identifiers ++ identifier ∷ [])
  identifiers_with identifiers identifier are is subject = (λ e. forth (one_of subject e), λ c. back (Contains-push_cases identifiers identifier subject c))
    where
      forth : (is_group_in names subject ≡ true) ⊎ (group_prefix ++ name ≡ subject) → Contains (identifiers ++ identifier ∷ []) subject
      forth (inl e) = Contains-append_left identifiers (identifier ∷ []) subject ((are subject).0 e)
      forth (inr e) = subst (Contains (identifiers ++ identifier ∷ [])) (is ∙ e) (Contains-push identifiers identifier)

      back : Contains identifiers subject ⊎ (identifier ≡ subject) → is_group_in (map.insert names name tt) subject ≡ true
      back (inl c) = more subject ((are subject).1 c)
      back (inr e) = ap (is_group_in (map.insert names name tt)) (sym e ∙ is) ∙ own
