-- A sorted map under names, as the map from the names' octets.
use Rattle.std.proofs.Common.{◌≡◌, ℕ, List, [], ◌∷◌, ◌++◌, map, append-nil, Bool, true, false, cond, Option, Some, None, unwrap_or, IsSome, refl, sym, ap, subst, ◌∙◌}
use Rattle.std.specs.Option.{option_map, option_copied, option_copied_mut}
use Rattle.std.specs.Borrow.{Bor, MutBor}
use Rattle.std.specs.Ordering.{nat_cmp, is_eq, match_ordering}
use Rattle.std.specs.declared.cmp.Ordering.{Ordering}
use Rattle.std.specs.declared.cmp.Ordering.TheVariants.{Less, Equal, Greater}
use Rattle.std.specs.Cmp.Lexicographic.{slice_cmp, nat_list_cmp_total}
use Rattle.std.specs.Str.{bytes_eq}
use Rattle.std.specs.FinMap.{find, get, insert, get-from_entries, get-insert, same_map, slice_cmp-IsAntisymmetric, nat_cmp-IsAntisymmetric}
use Rattle.std.specs.FinMap as fin
use Rattle.std.specs.Map.{lookup, set_value}
use Rattle.std.specs.BTreeMap.{insert_entry, is_at}
use Rattle.std.specs.declared.vec.Vec.{Vec}
use Rattle.std.proofs.lemmas.Map.Text.{is_eq-slice_cmp}
use Rattle.std.proofs.lemmas.Slice.Eq.{bytes_eq-Decides}
use Rattle.imap_text.specs.Places.{FieldPlaces, by_name, places_of, with_place}

-- whether two names compare equal
abbrev pub equal : List ℕ → List ℕ → Bool
equal q k = is_eq (slice_cmp nat_cmp q k)

pub equal-is : (q k : List ℕ) → equal q k ≡ true → q ≡ k
equal-is q k t = (bytes_eq-Decides q k).0 (sym (is_eq-slice_cmp q k) ∙ t)

equal-itself : (q : List ℕ) → equal q q ≡ true
equal-itself q = is_eq-slice_cmp q q ∙ (bytes_eq-Decides q q).1 refl

cond_twice : {X : Type 0} (b : Bool) (x y z : X) → cond b x z ≡ cond b x (cond b y z)
cond_twice true x y z = refl
cond_twice false x y z = refl

cond_swapped : {X : Type 0} (a b : Bool) (x y z : X) → (a ≡ true → b ≡ true → x ≡ y) → cond a x (cond b y z) ≡ cond b y (cond a x z)
cond_swapped true true x y z same = same refl refl
cond_swapped true false x y z same = refl
cond_swapped false true x y z same = refl
cond_swapped false false x y z same = refl

-- maps that answer alike are one
same_answers : (m n : FieldPlaces) → ((q : List ℕ) → get m q ≡ get n q) → m ≡ n
same_answers m n is = same_map nat_list_cmp_total (slice_cmp-IsAntisymmetric nat_cmp-IsAntisymmetric) m n is

module _ {Y V : Type 0} where
  -- what stands under the name
  abbrev pub at : List ℕ → List (Vec ℕ Y × V) → Option V
  at q es = lookup (is_at (λ (k : Vec ℕ Y). slice_cmp nat_cmp q k.items)) es

  at-insert : (q : List ℕ) (k : Vec ℕ Y) (v : V) (es : List (Vec ℕ Y × V))
      → at q (insert_entry (λ (p q : Vec ℕ Y). slice_cmp nat_cmp p.items q.items) es k v) ≡ cond (equal q k.items) (Some v) (at q es)
  at-insert q k v [] = refl
  at-insert q k v (e ∷ es) = by (slice_cmp nat_cmp k.items e.0.items) refl (at-insert q k v es)
    where
      by : (o : Ordering) → slice_cmp nat_cmp k.items e.0.items ≡ o
          → at q (insert_entry (λ (p q : Vec ℕ Y). slice_cmp nat_cmp p.items q.items) es k v) ≡ cond (equal q k.items) (Some v) (at q es)
          → at q (match_ordering o ((k, v) ∷ e ∷ es) ((e.0, v) ∷ es) (e ∷ insert_entry (λ (p q : Vec ℕ Y). slice_cmp nat_cmp p.items q.items) es k v))
          ≡ cond (equal q k.items) (Some v) (at q (e ∷ es))
      by Less same later = refl
      by Equal same later =
          let here : k.items ≡ e.0.items = equal-is k.items e.0.items (ap is_eq same) in
          cond_twice (equal q e.0.items) (Some v) (Some e.1) (at q es)
          ∙ ap (λ (n : List ℕ). cond (equal q n) (Some v) (at q (e ∷ es))) (sym here)
      by Greater same later =
          ap (cond (equal q e.0.items) (Some e.1)) later
          ∙ cond_swapped (equal q e.0.items) (equal q k.items) (Some e.1) (Some v) (at q es)
          (λ first second.
          let both : k.items ≡ e.0.items = sym (equal-is q k.items second) ∙ equal-is q e.0.items first in
          let one : true ≡ false = sym (equal-itself e.0.items) ∙ ap (λ (n : List ℕ). equal n e.0.items) (sym both) ∙ ap is_eq same in
          absurd (cc one))

  at-set : (q name : List ℕ) (w : V) (es : List (Vec ℕ Y × V)) → IsSome (at name es)
      → at q (set_value (is_at (λ (k : Vec ℕ Y). slice_cmp nat_cmp name k.items)) es w) ≡ cond (equal q name) (Some w) (at q es)
  at-set q name w [] there = absurd (cc there)
  at-set q name w (e ∷ es) there = by (equal name e.0.items) refl there (at-set q name w es)
    where
      by : (b : Bool) → equal name e.0.items ≡ b → IsSome (cond b (Some e.1) (at name es))
          → (IsSome (at name es) → at q (set_value (is_at (λ (k : Vec ℕ Y). slice_cmp nat_cmp name k.items)) es w) ≡ cond (equal q name) (Some w) (at q es))
          → at q (cond b ((e.0, w) ∷ es) (e ∷ set_value (is_at (λ (k : Vec ℕ Y). slice_cmp nat_cmp name k.items)) es w)) ≡ cond (equal q name) (Some w) (at q (e ∷ es))
      by true same some later =
          let here : name ≡ e.0.items = equal-is name e.0.items same in
          cond_twice (equal q e.0.items) (Some w) (Some e.1) (at q es)
          ∙ ap (λ (n : List ℕ). cond (equal q n) (Some w) (at q (e ∷ es))) (sym here)
      by false same some later =
          ap (cond (equal q e.0.items) (Some e.1)) (later some)
          ∙ cond_swapped (equal q e.0.items) (equal q name) (Some e.1) (Some w) (at q es)
          (λ first second.
          let both : name ≡ e.0.items = sym (equal-is q name second) ∙ equal-is q e.0.items first in
          let one : true ≡ false = sym (equal-itself e.0.items) ∙ ap (λ (n : List ℕ). equal n e.0.items) (sym both) ∙ same in
          absurd (cc one))

module _ {Z : Type 0} where
  moved_in : (b : Bool) (v : Vec ℕ Z) (w : Option (Vec ℕ Z))
      → cond b (Some v.items) (option_map (λ x. x.items) w) ≡ option_map (λ (x : Vec ℕ Z). x.items) (cond b (Some v) w)
  moved_in true v w = refl
  moved_in false v w = refl

module _ {Y Z : Type 0} where
  find_items : (es : List (Vec ℕ Y × Vec ℕ Z)) (q : List ℕ)
      → find (slice_cmp nat_cmp) q (map (λ e. (e.0.items, e.1.items)) es) ≡ option_map (λ (x : Vec ℕ Z). x.items) (at q es)
  find_items [] q = refl
  find_items (e ∷ es) q =
      ap (cond (equal q e.0.items) (Some e.1.items)) (find_items es q) ∙ moved_in (equal q e.0.items) e.1 (at q es)

  -- what the map has under the name q
  pub get-by_name : (es : List (Vec ℕ Y × Vec ℕ Z)) (q : List ℕ) → get (by_name es) q ≡ option_map (λ (x : Vec ℕ Z). x.items) (at q es)
  get-by_name es q = get-from_entries nat_list_cmp_total (map (λ e. (e.0.items, e.1.items)) es) q ∙ find_items es q

  -- what a look-up returns are the places of the name
  pub places_some : (es : List (Vec ℕ Y × Vec ℕ Z)) (name : List ℕ) (r : Option (Bor (Vec ℕ Z))) (found : Bor (Vec ℕ Z)) → r ≡ Some found
      → option_copied r ≡ at name es → found.now.items ≡ places_of (by_name es) name
  places_some es name r found is value =
      sym (ap (λ o. unwrap_or o []) (get-by_name es name ∙ ap (option_map (λ (x : Vec ℕ Z). x.items)) (sym value ∙ ap option_copied is)))

  pub places_none : (es : List (Vec ℕ Y × Vec ℕ Z)) (name : List ℕ) (r : Option (Bor (Vec ℕ Z))) → r ≡ None
      → option_copied r ≡ at name es → [] ≡ places_of (by_name es) name
  places_none es name r is value =
      sym (ap (λ o. unwrap_or o []) (get-by_name es name ∙ ap (option_map (λ (x : Vec ℕ Z). x.items)) (sym value ∙ ap option_copied is)))

  changed : (es ns : List (Vec ℕ Y × Vec ℕ Z)) (name : List ℕ) (v : Vec ℕ Z) → ((q : List ℕ) → at q ns ≡ cond (equal q name) (Some v) (at q es))
      → by_name ns ≡ insert (by_name es) name v.items
  changed es ns name v is = same_answers _ _ (λ q. get-by_name ns q
      ∙ ap (option_map (λ (x : Vec ℕ Z). x.items)) (is q)
      ∙ sym (moved_in (equal q name) v (at q es))
      ∙ ap (cond (equal q name) (Some v.items)) (sym (get-by_name es q))
      ∙ sym (get-insert nat_list_cmp_total (by_name es) name v.items q))

  pub inserted : (es ns : List (Vec ℕ Y × Vec ℕ Z)) (name : Vec ℕ Y) (v : Vec ℕ Z)
      → ns ≡ insert_entry (λ (p q : Vec ℕ Y). slice_cmp nat_cmp p.items q.items) es name v
      → by_name ns ≡ insert (by_name es) name.items v.items
  inserted es ns name v is = changed es ns name.items v (λ q. ap (at q) is ∙ at-insert q name v es)

  pub not_lent : (es : List (Vec ℕ Y × Vec ℕ Z)) (name : List ℕ) (r : Option (MutBor (Vec ℕ Z))) → r ≡ None → option_copied_mut r ≡ at name es
      → get (by_name es) name ≡ None
  not_lent es name r is value = get-by_name es name ∙ ap (option_map (λ (x : Vec ℕ Z). x.items)) (sym value ∙ ap option_copied_mut is)

  -- one more place was pushed to what was lent
  pub pushed : (es ns : List (Vec ℕ Y × Vec ℕ Z)) (name : List ℕ) (w : Vec ℕ Z) (r : Option (MutBor (Vec ℕ Z))) (found : MutBor (Vec ℕ Z)) (place : ℕ)
      → r ≡ Some found → option_copied_mut r ≡ at name es → ns ≡ set_value (is_at (λ (k : Vec ℕ Y). slice_cmp nat_cmp name k.items)) es w
      → w.items ≡ found.now.items ++ place ∷ [] → by_name ns ≡ with_place (by_name es) name place
  pushed es ns name w r found place is value written more =
      let there : at name es ≡ Some found.now = sym value ∙ ap option_copied_mut is in
      let old : found.now.items ≡ places_of (by_name es) name =
      sym (ap (λ o. unwrap_or o []) (get-by_name es name ∙ ap (option_map (λ (x : Vec ℕ Z). x.items)) there)) in
      changed es ns name w (λ q. ap (at q) written ∙ at-set q name w es (subst IsSome (sym there) refl))
      ∙ ap (insert (by_name es) name) (more ∙ ap (λ l. l ++ place ∷ []) old)

-- the first place of a name
pub with_place-first : (named : FieldPlaces) (name : List ℕ) (place : ℕ) (l : List ℕ) → get named name ≡ None → l ≡ place ∷ [] → insert named name l ≡ with_place named name place
with_place-first named name place l none is = ap (insert named name) (is ∙ ap (λ o. unwrap_or o [] ++ place ∷ []) (sym none))

-- the places of each name after one was added
pub places-with_place : (named : FieldPlaces) (name : List ℕ) (place : ℕ) (q : List ℕ)
    → places_of (with_place named name place) q ≡ places_of named q ++ cond (bytes_eq q name) (place ∷ []) []
places-with_place named name place q =
    ap (λ o. unwrap_or o []) (get-insert nat_list_cmp_total named name (places_of named name ++ place ∷ []) q)
    ∙ by (equal q name) refl
    ∙ ap (λ (b : Bool). places_of named q ++ cond b (place ∷ []) []) (is_eq-slice_cmp q name)
  where
    by : (b : Bool) → equal q name ≡ b
        → unwrap_or (cond b (Some (places_of named name ++ place ∷ [])) (get named q)) [] ≡ places_of named q ++ cond b (place ∷ []) []
    by true e = ap (λ (n : List ℕ). places_of named n ++ place ∷ []) (sym (equal-is q name e))
    by false e = sym (append-nil (places_of named q))

pub none_at : (q : List ℕ) → places_of fin.empty q ≡ []
none_at q =
    let m : FieldPlaces = fin.empty in
    let none : get m q ≡ None = get-from_entries nat_list_cmp_total [] q in ap (λ (o : Option (List ℕ)). unwrap_or o []) none
