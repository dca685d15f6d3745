-- The entries of a name and of all names below it.
use Rattle.std.proofs.Common.{◌≡◌, ℕ, zero, suc, ◌-◌, ◌<◌, ◌≤◌, List, [], ◌∷◌, ◌++◌, Bool, true, false, cond, not, IsTrue, None, length, drop, take, get_or, reverse, Ordering, Less, Equal, Greater, refl, sym, ap, subst, ◌∙◌, arith}
use Rattle.std.specs.Prelude.{◌↔◌, ◌||◌, ◌&&◌, nat_lt}
use Rattle.std.specs.Ordering.{is_lt}
use Rattle.std.specs.List.{list_any, list_all, Contains}
use Rattle.std.proofs.lemmas.Bool.{and_parts, and_from, false_from_ne_true}
use Rattle.std.specs.FinMap as fin
use Rattle.std.specs.FinMap.{get-entries}
use Rattle.std.specs.FinMap.Entries.{find, below_all, is_sorted, where_key, find-where_key}
use Rattle.imap_names.specs.Name.{Name, IsAbove}
use Rattle.imap_names.specs.Order.{Names, path_cmp, name_cmp, run_cmp, is_within, is_below}
use Rattle.imap_names.proofs.OrderLaws.{name_total, name_antisymmetric, run_apart, below_from_within, is_below-IsAbove, name_cmp-above}
use Rattle.imap_names.proofs.AboveLaws.{IsAbove-self}
use Rattle.imap_name_map.specs.Cuts.{before, up_to}
use Rattle.imap_name_map.specs.Rows.{entries_within, entries_below, run_of}
use Rattle.imap_name_map.proofs.Cuts.{holds, run_is, before-le-up_to, rising}

-- ---- their places

module _ {X : Type 0} (es seen : List (Name × X)) (top : Name) (start end : ℕ) (same : seen ≡ es) (is : start ≡ before (λ x. run_cmp x top) seen) (is' : end ≡ up_to (λ x. run_cmp x top) seen) where
  pub run_between : IsTrue (is_sorted name_cmp es) → drop start (take end es) ≡ entries_within top es
  run_between h =
      (λ i. drop (is i) (take (is' i) es))
      ∙ (λ i. drop (before (λ x. run_cmp x top) (same i)) (take (up_to (λ x. run_cmp x top) (same i)) es))
      ∙ run_is name_total (λ x. run_cmp x top) (run_apart top) es (holds h)

  pub run_order : start ≤ end
  run_order = omega (arith, before-le-up_to name_total (λ x. run_cmp x top) (run_apart top) seen, is, is')

-- ---- what stands below a name

not_first : (between : Name) → name_cmp between [] ≡ Less → ⊥
not_first between e = by (reverse between) e
  where
    by : (path : List (List ℕ)) → path_cmp path [] ≡ Less → ⊥
    by [] h = cc
    by (part ∷ path) h = cc

no_longer : (a b : Name) → a ≡ b → IsAbove a b → ⊥
no_longer a b e above = IsAbove-self a (subst (IsAbove a) (sym e) above)

-- of two names within a run, the later one is below its top
later_below : (top a b : Name) → is_within top a ≡ true → is_within top b ≡ true → name_cmp a b ≡ Less → is_below top b ≡ true
later_below top a b ha hb e =
    let (x, ax) = below_from_within top a ha in
    let (y, by) = below_from_within top b hb in
    (is_below-IsAbove top b).1 (above x y ax by ((λ i. name_cmp (sym ax i) (sym by i)) ∙ e))
  where
    above : (x y : Name) → a ≡ x ++ top → b ≡ y ++ top → name_cmp (x ++ top) (y ++ top) ≡ Less → IsAbove top b
    above x [] ax by l = absurd (not_first x (sym (name_cmp-above top x []) ∙ l))
    above x (part ∷ y) ax by l = (part, y, by)

pub not_below_itself : (top : Name) → is_below top top ≡ false
not_below_itself top = false_from_ne_true _ (λ t. IsAbove-self top ((is_below-IsAbove top top).0 t))

-- a name within a run is its top, or below it
pub below_unless_top : (top a : Name) → is_within top a ≡ true → (same : Bool) → (same ≡ true) ↔ (a ≡ top) → is_below top a ≡ not same
below_unless_top top a h same decides = let (x, ax) = below_from_within top a h in by x ax
  where
    by : (x : Name) → a ≡ x ++ top → is_below top a ≡ not same
    by [] ax = ap (is_below top) ax ∙ not_below_itself top ∙ ap not (sym (decides.1 ax))
    by (part ∷ x) ax =
        (is_below-IsAbove top a).1 (part, x, ax)
        ∙ ap not (sym (false_from_ne_true same (λ t. no_longer top a (sym (decides.0 t)) (part, x, ax))))

no_other : (b : Bool) → (b || false) ≡ b
no_other true = refl
no_other false = refl

second_passes : (a b c : Bool) → b ≡ true → (a || (b || c)) ≡ true
second_passes true b c h = refl
second_passes false b c h = ap (λ z. z || c) h

less : (r : Ordering) → is_lt r ≡ true → r ≡ Less
less Less e = refl
less Equal e = absurd (grind arith)
less Greater e = absurd (grind arith)

turned : {A : Type 0} (b : Bool) (x y : A) → cond (not b) x y ≡ cond b y x
turned true x y = refl
turned false x y = refl

module _ {X : Type 0} (top : Name) where
  abbrev pub any_below : List (Name × X) → Bool
  any_below = list_any (λ e. is_below top e.0)

  abbrev pub all_within : List (Name × X) → Bool
  all_within = list_all (λ e. is_within top e.0)

  within_at : (es : List (Name × X)) (i : ℕ) (d : Name × X) → all_within es ≡ true → i < length es → is_within top (get_or es i d).0 ≡ true
  within_at [] i d h l = absurd (omega (arith, l))
  within_at (e ∷ es) zero d h l = (and_parts _ _ h).0
  within_at (e ∷ es) (suc i) d h l = within_at es i d (and_parts _ _ h).1 (omega (arith, l))

  pub all_within-entries : (es : List (Name × X)) → all_within (entries_within top es) ≡ true
  all_within-entries [] = refl
  all_within-entries (e ∷ es) = by (is_within top e.0) refl (all_within-entries es)
    where
      by : (b : Bool) → is_within top e.0 ≡ b → all_within (entries_within top es) ≡ true → all_within (cond b (e ∷ entries_within top es) (entries_within top es)) ≡ true
      by true h rest = and_from _ _ h rest
      by false h rest = rest

  -- only entries within the run are below its top
  pub any_below-within : (es : List (Name × X)) → any_below (entries_within top es) ≡ any_below es
  any_below-within [] = refl
  any_below-within (e ∷ es) = by (is_within top e.0) refl (any_below-within es)
    where
      by : (b : Bool) → is_within top e.0 ≡ b → any_below (entries_within top es) ≡ any_below es → any_below (cond b (e ∷ entries_within top es) (entries_within top es)) ≡ (is_below top e.0 || any_below es)
      by true h rest = ap (λ z. is_below top e.0 || z) rest
      by false h rest = rest ∙ sym (ap (λ b. (b && nat_lt (length top) (length e.0)) || any_below es) h)

  -- the last entry of a run tells whether there is a name below its top
  pub last_is_below : (es : List (Name × X)) (last : Name × X) (same : Bool) → IsTrue (is_sorted name_cmp es) → all_within es ≡ true → 0 < length es → last ≡ get_or es (length es - 1) last → (same ≡ true) ↔ (last.0 ≡ top) → not same ≡ any_below es
  last_is_below [] last same sorted within some is decides = absurd (omega (arith, some))
  last_is_below (e ∷ []) last same sorted within some is decides =
      let here : is_within top last.0 ≡ true = ap (λ x. is_within top x.0) is ∙ within_at (e ∷ []) 0 last within (omega arith) in
      sym (below_unless_top top last.0 here same decides) ∙ ap (λ x. is_below top x.0) is ∙ sym (no_other (is_below top e.0))
  last_is_below (e ∷ f ∷ more) last same sorted within some is decides =
      let end : length (e ∷ f ∷ more) - 1 ≡ suc (length more) = omega arith in
      let at : last ≡ get_or (e ∷ f ∷ more) (suc (length more)) last = is ∙ ap (λ n. get_or (e ∷ f ∷ more) n last) end in
      let here : is_within top last.0 ≡ true = ap (λ x. is_within top x.0) at ∙ within_at (e ∷ f ∷ more) (suc (length more)) last within (omega arith) in
      let first : is_within top e.0 ≡ true = within_at (e ∷ f ∷ more) 0 last within (omega arith) in
      let next : is_within top f.0 ≡ true = within_at (e ∷ f ∷ more) 1 last within (omega arith) in
      let behind : name_cmp e.0 last.0 ≡ Less = ap (λ x. name_cmp e.0 x.0) at ∙ rising name_cmp (e ∷ f ∷ more) 0 (suc (length more)) last (holds sorted) (omega arith) (omega arith) in
      sym (below_unless_top top last.0 here same decides)
      ∙ later_below top e.0 last.0 first here behind
      ∙ sym (second_passes (is_below top e.0) (is_below top f.0) (any_below more)
      (later_below top e.0 f.0 first next (rising name_cmp (e ∷ f ∷ more) 0 1 last (holds sorted) (omega arith) (omega arith))))

  -- ---- a run without its top

  -- all entries of a run after its first one are below its top
  later_entries : (e : Name × X) (es : List (Name × X)) → below_all name_cmp e.0 es ≡ true → is_within top e.0 ≡ true → all_within es ≡ true → entries_below top es ≡ es
  later_entries e [] later first within = refl
  later_entries e (f ∷ es) later first within =
      let here : is_below top f.0 ≡ true = later_below top e.0 f.0 first (and_parts _ _ within).0 (less _ (and_parts _ _ later).0) in
      ap (λ b. cond b (f ∷ entries_below top es) (entries_below top es)) here
      ∙ ap (λ rest. f ∷ rest) (later_entries e es (and_parts _ _ later).1 first (and_parts _ _ within).1)

  without_first : (e : Name × X) (es : List (Name × X)) (same : Bool) → IsTrue (is_sorted name_cmp (e ∷ es)) → all_within (e ∷ es) ≡ true → (same ≡ true) ↔ (e.0 ≡ top) → entries_below top (e ∷ es) ≡ cond same es (e ∷ es)
  without_first e es same sorted within decides =
      let first : is_within top e.0 ≡ true = (and_parts _ _ within).0 in
      let rest : entries_below top es ≡ es = later_entries e es (and_parts _ _ sorted).0 first (and_parts _ _ within).1 in
      ap (λ b. cond b (e ∷ entries_below top es) (entries_below top es)) (below_unless_top top e.0 first same decides)
      ∙ ap (λ l. cond (not same) (e ∷ l) l) rest ∙ turned same (e ∷ es) es

  pub without_split : (es : List (Name × X)) (e : Name × X) (others : List (Name × X)) (n : Name) (same : Bool) → es ≡ e ∷ others → n ≡ e.0 → IsTrue (is_sorted name_cmp es) → all_within es ≡ true → (same ≡ true) ↔ (n ≡ top) → entries_below top es ≡ cond same others es
  without_split es e others n same is name sorted within decides =
      ap (entries_below top) is
      ∙ without_first e others same (subst (λ l. IsTrue (is_sorted name_cmp l)) is sorted) (subst (λ l. all_within l ≡ true) is within) (subst (λ m. (same ≡ true) ↔ (m ≡ top)) name decides)
      ∙ ap (cond same others) (sym is)

  -- a name below the top is within the run
  pub below_within : (es : List (Name × X)) → entries_below top (entries_within top es) ≡ entries_below top es
  below_within [] = refl
  below_within (e ∷ es) = by (is_within top e.0) refl (below_within es)
    where
      by : (b : Bool) → is_within top e.0 ≡ b → entries_below top (entries_within top es) ≡ entries_below top es → entries_below top (cond b (e ∷ entries_within top es) (entries_within top es)) ≡ cond (is_below top e.0) (e ∷ entries_below top es) (entries_below top es)
      by true h rest = ap (λ l. cond (is_below top e.0) (e ∷ l) l) rest
      by false h rest = rest ∙ sym (ap (λ b. cond (b && nat_lt (length top) (length e.0)) (e ∷ entries_below top es) (entries_below top es)) h)

-- ---- laws of runs

module _ {X : Type 0} (p : Name → Bool) where
  Contains-later : (es : List (Name × X)) (f e : Name × X) → Contains es e → Contains (f ∷ es) e
  Contains-later es f e (k, within, at) = (suc k, omega (arith, within), at)

  kept : (es : List (Name × X)) (e : Name × X) → Contains (where_key name_cmp p es) e → Contains es e × (p e.0 ≡ true)
  kept [] e h = absurd (omega (arith, h.1))
  kept (f ∷ es) e h = by (p f.0) refl (kept es e) h
    where
      later : Contains es e × (p e.0 ≡ true) → Contains (f ∷ es) e × (p e.0 ≡ true)
      later h = (Contains-later es f e h.0, h.1)

      by : (b : Bool) → p f.0 ≡ b → (Contains (where_key name_cmp p es) e → Contains es e × (p e.0 ≡ true)) → Contains (cond b (f ∷ where_key name_cmp p es) (where_key name_cmp p es)) e → Contains (f ∷ es) e × (p e.0 ≡ true)
      by true passes rest (zero, within, at) = ((0, omega arith, at), ap (λ x. p x.0) (sym at) ∙ passes)
      by true passes rest (suc k, within, at) = later (rest (k, omega (arith, within), at))
      by false fails rest h = later (rest h)

  keeps : (es : List (Name × X)) (e : Name × X) → Contains es e → p e.0 ≡ true → Contains (where_key name_cmp p es) e
  keeps [] e h passes = absurd (omega (arith, h.1))
  keeps (f ∷ es) e (zero, within, at) passes =
      subst (λ b. Contains (cond b (f ∷ where_key name_cmp p es) (where_key name_cmp p es)) e) (sym (ap (λ x. p x.0) at ∙ passes)) (0, omega arith, at)
  keeps (f ∷ es) e (suc k, within, at) passes = by (p f.0) (keeps es e (k, omega (arith, within), at) passes)
    where
      by : (b : Bool) → Contains (where_key name_cmp p es) e → Contains (cond b (f ∷ where_key name_cmp p es) (where_key name_cmp p es)) e
      by true rest = Contains-later (where_key name_cmp p es) f e rest
      by false rest = rest

module _ {X : Type 0} (top : Name) (m : Names X) where
  -- what is found in a run
  pub get_in_run : (q : Name) → find name_cmp q (run_of top m) ≡ cond (is_within top q) (fin.get m q) None
  get_in_run q =
      find-where_key name_cmp (is_within top) q (λ x t. ap (is_within top) (sym (name_antisymmetric q x t))) (fin.entries m)
      ∙ ap (λ z. cond (is_within top q) z None) (sym (get-entries m q))

  -- the entries of a run are those of the map that are within it
  pub entry_in_run : (e : Name × X) → Contains (run_of top m) e ↔ (Contains (fin.entries m) e × (is_within top e.0 ≡ true))
  entry_in_run e = (kept (is_within top) (fin.entries m) e, λ h. keeps (is_within top) (fin.entries m) e h.0 h.1)
