-- The map of a list in order, and what an edit of the list does to it.
use Rattle.std.proofs.Common.{◌≡◌, ℕ, ◌+◌, ◌-◌, ◌<◌, ◌≤◌, List, [], ◌∷◌, Bool, true, false, cond, not, IsTrue, Some, None, Option, length, take, drop, set, get_or, Equal, is_eq, refl, sym, ap, subst, ◌∙◌, arith}
use Rattle.std.specs.Prelude.{◌↔◌, ◌==◌, insert, remove, slice_index_or}
use Rattle.std.proofs.lemmas.Bool.{eqb-true, eq-eqb}
use Rattle.std.proofs.lemmas.List.{get_or_default, drop-take}
use Rattle.std.specs.Ordering.{eq_by_cmp}
use Rattle.std.specs.Cmp.{alike_right, eq_by_cmp_equiv}
use Rattle.std.specs.FinMap as fin
use Rattle.std.specs.FinMap.{same_map, same_entries_map, entries-from_sorted, entries_sorted, entries-insert, get-from_sorted, get-remove, len-entries, len-empty, empty_of_len}
use Rattle.std.specs.FinMap.Entries.{find, put, is_sorted, where_key, is_sorted-put, is_sorted-where_key, find-where_key}
use Rattle.imap_names.specs.Name.{Name}
use Rattle.imap_names.specs.Order.{Names, name_cmp}
use Rattle.imap_names.proofs.OrderLaws.{name_total, name_antisymmetric}
use Rattle.imap_name_map.specs.Cuts.{before, IsAt, IsPlace, IsGap}
use Rattle.imap_name_map.specs.Rows.{Rows, with_value}
use Rattle.imap_name_map.proofs.Cuts.{holds, is_true, find_there, find_gap, put_there, put_new, removed, others_all, before_there}

-- every name but k
abbrev pub other_than : Name → Name → Bool
other_than k x = not (eq_by_cmp name_cmp k x)

pub turned : {A : Type 0} (b : Bool) (x y : A) → cond (not b) x y ≡ cond b y x
turned true x y = refl
turned false x y = refl

module _ {X : Type 0} where
  abbrev pub map_of : List (Name × X) → Names X
  map_of es = fin.from_sorted es

  pub map_of-nil : map_of [] ≡ fin.empty
  map_of-nil = empty_of_len (map_of []) (len-entries (map_of []) ∙ ap length (entries-from_sorted name_cmp [] tt))

  pub entries_of : (es : List (Name × X)) → IsTrue (is_sorted name_cmp es) → fin.entries (map_of es) ≡ es
  entries_of es h = entries-from_sorted name_cmp es (holds h)

  pub len_of : (es : List (Name × X)) → IsTrue (is_sorted name_cmp es) → fin.len (map_of es) ≡ length es
  len_of es h = len-entries (map_of es) ∙ ap length (entries_of es h)

  pub get_of : (es : List (Name × X)) (q : Name) → IsTrue (is_sorted name_cmp es) → fin.get (map_of es) q ≡ find name_cmp q es
  get_of es q h = get-from_sorted name_cmp es q (holds h)

  -- the entries of a map are in order
  pub sorted_entries : (m : Names X) (es : List (Name × X)) → es ≡ fin.entries m → IsTrue (is_sorted name_cmp es)
  sorted_entries m es is = ap (is_sorted name_cmp) is ∙ is_true _ (entries_sorted m)

  -- and make it
  pub map_of-entries : (m : Names X) (es : List (Name × X)) → es ≡ fin.entries m → map_of es ≡ m
  map_of-entries m es is = same_entries_map (map_of es) m (entries_of es (sorted_entries m es is) ∙ is)

  -- ---- an entry put, and one taken out

  pub sorted_put : (es : List (Name × X)) (k : Name) (v : X) → IsTrue (is_sorted name_cmp es) → IsTrue (is_sorted name_cmp (put name_cmp k v es))
  sorted_put es k v h = is_true _ (is_sorted-put name_cmp name_total k v es (holds h))

  pub map_of-put : (es : List (Name × X)) (k : Name) (v : X) → IsTrue (is_sorted name_cmp es) → map_of (put name_cmp k v es) ≡ fin.insert (map_of es) k v
  map_of-put es k v h =
      same_entries_map _ _ (entries_of _ (sorted_put es k v h) ∙ sym (entries-insert name_total (map_of es) k v ∙ ap (put name_cmp k v) (entries_of es h)))

  -- a list that has a new value in it, as a map with its room
  pub rows_put : (es made : List (Name × X)) (k : Name) (v : X) (room : ℕ) (rows : Rows X) → IsTrue (is_sorted name_cmp es) → made ≡ put name_cmp k v es → record { map = map_of es; spare = room } ≡ rows → record { map = map_of made; spare = room } ≡ with_value rows k v
  rows_put es made k v room rows h is seen =
      let changed : map_of made ≡ fin.insert (map_of es) k v = ap map_of is ∙ map_of-put es k v h in
      let from : Rows X = record { map = map_of made; spare = room } in
      let to : Rows X = record { map = fin.insert (map_of es) k v; spare = room } in
      let step : from ≡ to = λ i. record { map = changed i; spare = room } in
      step ∙ ap (λ r. with_value r k v) seen

  -- what a list tells of the map that it is
  pub get_listed : (es : List (Name × X)) (k : Name) (room : ℕ) (rows : Rows X) → IsTrue (is_sorted name_cmp es) → record { map = map_of es; spare = room } ≡ rows → (o : Option X) → o ≡ find name_cmp k es → o ≡ fin.get rows.map k
  get_listed es k room rows h seen o is = is ∙ sym (get_of es k h) ∙ ap (λ r. fin.get r.map k) seen

  pub sorted_where : (p : Name → Bool) (es : List (Name × X)) → IsTrue (is_sorted name_cmp es) → IsTrue (is_sorted name_cmp (where_key name_cmp p es))
  sorted_where p es h = is_true _ (is_sorted-where_key name_cmp p es (holds h))

  find_others : (es : List (Name × X)) (k q : Name) → find name_cmp q (where_key name_cmp (other_than k) es) ≡ cond (eq_by_cmp name_cmp q k) None (find name_cmp q es)
  find_others es k q =
      find-where_key name_cmp (other_than k) q (λ x t. ap (λ r. not (is_eq r)) (sym (alike_right name_total q x k t))) es
      ∙ turned (eq_by_cmp name_cmp k q) _ _
      ∙ ap (λ b. cond b None (find name_cmp q es)) ((eq_by_cmp_equiv name_total).symm k q)

  pub map_of-others : (es : List (Name × X)) (k : Name) → IsTrue (is_sorted name_cmp es) → map_of (where_key name_cmp (other_than k) es) ≡ fin.remove (map_of es) k
  map_of-others es k h =
      same_map name_total name_antisymmetric _ _
      (λ q. get_of _ q (sorted_where (other_than k) es h) ∙ find_others es k q ∙ ap (cond (eq_by_cmp name_cmp q k) None) (sym (get_of es q h)) ∙ sym (get-remove name_total (map_of es) k q))

  pub kept_put : (old new : List (Name × X)) (k : Name) (v : X) → IsTrue (is_sorted name_cmp old) → new ≡ put name_cmp k v old → IsTrue (is_sorted name_cmp new)
  kept_put old new k v h is = subst (λ es. IsTrue (is_sorted name_cmp es)) (sym is) (sorted_put old k v h)

  pub kept_others : (old new : List (Name × X)) (k : Name) → IsTrue (is_sorted name_cmp old) → new ≡ where_key name_cmp (other_than k) old → IsTrue (is_sorted name_cmp new)
  kept_others old new k h is = subst (λ es. IsTrue (is_sorted name_cmp es)) (sym is) (sorted_where (other_than k) old h)

  -- ---- what is at a place that was found

  pub found : (es : List (Name × X)) (k : Name) (place : ℕ) (x : Name × X) → IsPlace k es place → x ≡ slice_index_or es place x → Some x.1 ≡ find name_cmp k es
  found es k place x (is, there) read =
      let at : IsAt k es (before (λ x. name_cmp x k) es) = subst (λ n. IsAt k es n) is there in
      let value : x ≡ get_or es (before (λ x. name_cmp x k) es) x = read ∙ ap (λ n. get_or es n x) is in
      ap (λ e. Some e.1) value ∙ sym (find_there name_total k es x at.0 (at.1 x))

  pub missed : (es : List (Name × X)) (k : Name) (place : ℕ) (test : Bool) → place ≡ before (λ x. name_cmp x k) es → IsTrue (is_sorted name_cmp es) → (IsAt k es place → IsTrue test) → test ≡ false → find name_cmp k es ≡ None
  missed [] k place test is h says fails = refl
  missed (e ∷ es) k place test is h says fails =
      find_gap name_total k (e ∷ es) e (holds h) (λ within at.
      let there : IsAt k (e ∷ es) place = subst (λ n. IsAt k (e ∷ es) n) (sym is) (within, λ d. at_any (e ∷ es) _ e d within at) in
      let passes = says there in absurd (cc))
    where
      at_any : (l : List (Name × X)) (n : ℕ) (d d' : Name × X) → n < length l → name_cmp (get_or l n d).0 k ≡ Equal → name_cmp (get_or l n d').0 k ≡ Equal
      at_any l n d d' within at = subst (λ z. name_cmp z.0 k ≡ Equal) (get_or_default l n d d' within) at

  -- a place at which the name stands is its place
  pub placed : (es : List (Name × X)) (k : Name) (place : ℕ) → IsTrue (is_sorted name_cmp es) → IsAt k es place → IsPlace k es place
  placed [] k place h at = absurd (omega (arith, at.0))
  placed (e ∷ es) k place h at = (before_there name_total k (e ∷ es) e place (holds h) at.0 (at.1 e), at)

  -- the place of k in a list, or its gap, was found as the list was seen
  module _ (es seen : List (Name × X)) (k : Name) (place : ℕ) (same : seen ≡ es) where
    there : IsPlace k seen place → (place ≡ before (λ x. name_cmp x k) es) × IsAt k es (before (λ x. name_cmp x k) es)
    there h =
        let here : IsPlace k es place = subst (λ l. IsPlace k l place) same h in (here.0, subst (IsAt k es) here.0 here.1)

    pub value_there : (x : Name × X) → IsPlace k seen place → x ≡ slice_index_or es place x → Some x.1 ≡ find name_cmp k es
    value_there x h read = found es k place x (subst (λ l. IsPlace k l place) same h) read

    pub set_there : (v : X) (x : Name × X) → IsPlace k seen place → x ≡ slice_index_or es place x → set es place (x.0, v) ≡ put name_cmp k v es
    set_there v x h read =
        let (is, at) = there h in
        let value : x ≡ get_or es (before (λ x. name_cmp x k) es) x = read ∙ ap (λ n. get_or es n x) is in
        (λ i. set es (is i) ((value i).0, v)) ∙ put_there name_total k v es x at.0 (at.1 x)

    pub put_in_gap : (v : X) → IsGap k seen place → insert es place (k, v) ≡ put name_cmp k v es
    put_in_gap v h =
        let here : IsGap k es place = subst (λ l. IsGap k l place) same h in
        ap (λ n. insert es n (k, v)) here.0 ∙ put_new name_total k v es here.2

    pub removed_there : (x : Name × X) → IsTrue (is_sorted name_cmp es) → IsPlace k seen place → remove es place ≡ where_key name_cmp (other_than k) es
    removed_there x h h' = let (is, at) = there h' in ap (remove es) is ∙ removed name_total k es x (holds h) at.0 (at.1 x)

    pub not_removed : IsGap k seen place → es ≡ where_key name_cmp (other_than k) es
    not_removed h = sym (others_all name_total k es (subst (λ l. IsGap k l place) same h).2)

  pub after_insert : (es made new : List (Name × X)) (ok : Bool) → new ≡ cond ok made es → ok ≡ true → new ≡ made
  after_insert es made new ok is fine = is ∙ ap (λ b. cond b made es) fine

  pub empty_decides : (m : Names X) (es : List (Name × X)) (b : Bool) → es ≡ fin.entries m → b ≡ (length es == 0) → (b ≡ true) ↔ (m ≡ fin.empty)
  empty_decides m es b is h = (
    λ t. empty_of_len m (len-entries m ∙ ap length (sym is) ∙ eqb-true (length es) 0 (sym h ∙ t)),
    λ e. h ∙ eq-eqb (length es) 0 (ap length is ∙ sym (len-entries m) ∙ ap fin.len e ∙ len-empty name_cmp X),
  )

-- a part of a list, by its bounds
pub part_between : {A : Type 0} (es : List A) (start end : ℕ) → start ≤ end → take (end - start) (drop start es) ≡ drop start (take end es)
part_between es start end order =
    let whole : start + (end - start) ≡ end = omega (arith, order) in
    sym (drop-take start (end - start) es) ∙ ap (λ n. drop start (take n es)) whole
