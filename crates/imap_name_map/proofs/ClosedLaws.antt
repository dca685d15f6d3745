-- Maps with each name's superior in them.
use Rattle.std.proofs.Common.{◌≡◌, ◌≢◌, ℕ, ◌<◌, List, [], ◌∷◌, Bool, true, false, ◌⊎◌, inl, inr, Option, Some, None, is_some, length, refl, sym, ap, ◌∙◌, arith}
use Rattle.std.proofs.lemmas.Bool.{false_from_ne_true}
use Rattle.std.specs.FinMap as fin
use Rattle.imap_names.specs.Name.{Name, superior}
use Rattle.imap_names.specs.Order.{Names, is_within, moved}
use Rattle.imap_names.proofs.MovedLaws.{superior_is_tail, superior_deeper, within_deeper, within_cases, within_no_shorter, moved_deeper, moved_within}
use Rattle.imap_name_map.specs.Rows.{run_of}
use Rattle.imap_name_map.specs.Renaming.{renamed}
use Rattle.imap_name_map.proofs.LookUp.{renamed_comes, renamed_goes, renamed_stays}

-- the name right above is there, if there is one
abbrev pub HasItsSuperior : {X : Type 0} → Names X → Name → Type 0
HasItsSuperior m name = (above : Name) → superior name ≡ Some above → fin.contains_key m above ≡ true

-- so it is for every name that is there
abbrev pub IsClosed : {X : Type 0} → Names X → Type 0
IsClosed m = (name : Name) → fin.contains_key m name ≡ true → HasItsSuperior m name

-- the same, by a test of what is right above
pub HasItsSuperior-from_test : {X : Type 0} (m : Names X) (name : Name) (is_there : Option Name → Bool) → ((above : Name) → is_there (Some above) ≡ fin.contains_key m above) → is_there (superior name) ≡ true → HasItsSuperior m name
HasItsSuperior-from_test m name is_there tests there above e = sym (tests above) ∙ ap is_there (sym e) ∙ there

pub HasItsSuperior-test : {X : Type 0} (m : Names X) (name : Name) (is_there : Option Name → Bool) → ((above : Name) → is_there (Some above) ≡ fin.contains_key m above) → is_there None ≡ true → HasItsSuperior m name → is_there (superior name) ≡ true
HasItsSuperior-test m name is_there tests at_root has = by (superior name) refl
  where
    by : (o : Option Name) → superior name ≡ o → is_there o ≡ true
    by None e = at_root
    by (Some above) e = tests above ∙ has above e

apart_above : (top : Name) (deepest : List ℕ) (above : Name) → is_within top (deepest ∷ above) ≡ false → is_within top above ≡ false
apart_above top deepest above out = false_from_ne_true _ (λ e. absurd (cc (sym out ∙ within_deeper top deepest above e)))

module _ {X : Type 0} (old new : Name) (m : Names X) (free : run_of new m ≡ []) (parts : 1 < length old) (closed : IsClosed m) where
  abbrev after : Names X
  after = renamed old new m

  -- a name in the run comes with its superior
  in_run : (deepest : List ℕ) (above : Name) → is_within new above ≡ true → fin.contains_key after (deepest ∷ above) ≡ true → fin.contains_key after above ≡ true
  in_run deepest above e there =
      let from : Name = moved new old above in
      let long : 1 < length from = omega (arith, parts, within_no_shorter old from (moved_within new old above e)) in
      let was : fin.contains_key m (deepest ∷ from) ≡ true = ap (fin.contains_key m) (sym (moved_deeper new old deepest above e)) ∙ sym (ap is_some (renamed_comes old new m (deepest ∷ above) free (within_deeper new deepest above e))) ∙ there in
      ap is_some (renamed_comes old new m above free e) ∙ closed (deepest ∷ from) was from (superior_deeper deepest from long)

  -- a name in neither run has its superior in neither
  in_neither : (deepest : List ℕ) (above : Name) → 1 < length above → is_within new (deepest ∷ above) ≡ false → is_within old (deepest ∷ above) ≡ false
      → fin.contains_key after (deepest ∷ above) ≡ true → fin.contains_key after above ≡ true
  in_neither deepest above long out other there =
      ap is_some (renamed_stays old new m above free (apart_above new deepest above out) (apart_above old deepest above other))
      ∙ closed (deepest ∷ above) (sym (ap is_some (renamed_stays old new m (deepest ∷ above) free out other)) ∙ there) above (superior_deeper deepest above long)

  -- only the superior of `new` is left to be shown
  renamed_by : (name : Name) → fin.contains_key after name ≡ true → (above : Name) → superior name ≡ Some above → (name ≡ new → fin.contains_key after above ≡ true) → fin.contains_key after above ≡ true
  renamed_by name there above e place =
      let s = superior_is_tail name above e in
      by s.deepest s.is s.parts (is_within new (s.deepest ∷ above)) refl (is_within old (s.deepest ∷ above)) refl
    where
      moves : (deepest : List ℕ) → name ≡ deepest ∷ above → fin.contains_key after (deepest ∷ above) ≡ true → (deepest ∷ above ≡ new) ⊎ (is_within new above ≡ true) → fin.contains_key after above ≡ true
      moves deepest is here (inl same) = place (is ∙ same)
      moves deepest is here (inr within) = in_run deepest above within here

      by : (deepest : List ℕ) → name ≡ deepest ∷ above → 1 < length above → (b : Bool) → is_within new (deepest ∷ above) ≡ b → (c : Bool) → is_within old (deepest ∷ above) ≡ c → fin.contains_key after above ≡ true
      by deepest is long true w c v = moves deepest is (ap (fin.contains_key after) (sym is) ∙ there) (within_cases new deepest above w)
      by deepest is long false w true v =
          absurd (cc (sym (ap is_some (renamed_goes old new m (deepest ∷ above) free w v)) ∙ ap (fin.contains_key after) (sym is) ∙ there))
      by deepest is long false w false v = in_neither deepest above long w v (ap (fin.contains_key after) (sym is) ∙ there)

  -- every name but `new` has its superior still
  pub renamed_but_new : (name : Name) → fin.contains_key after name ≡ true → name ≢ new → HasItsSuperior after name
  renamed_but_new name there other above e = renamed_by name there above e (λ same. absurd (other same))

  -- what is right above `new` stays, unless `new` is below `old`
  pub above_new_stays : is_within old new ≡ false → HasItsSuperior m new → HasItsSuperior after new
  above_new_stays apart place above e =
      let s = superior_is_tail new above e in
      let out : is_within new above ≡ false = false_from_ne_true _ (λ w. omega (arith, ap length s.is, within_no_shorter new above w)) in
      let other : is_within old above ≡ false = apart_above old s.deepest above (ap (is_within old) (sym s.is) ∙ apart) in
      ap is_some (renamed_stays old new m above free out other) ∙ place above e

  -- so the map stays closed
  pub renamed_closed : is_within old new ≡ false → HasItsSuperior m new → IsClosed after
  renamed_closed apart place name there above e =
      renamed_by name there above e (λ same. above_new_stays apart place above (ap superior (sym same) ∙ e))
