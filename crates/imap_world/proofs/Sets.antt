-- The sets of names of users, with and without room.
use Rattle.std.proofs.Common.{◌≡◌, ℕ, Bool, true, false, cond, eqb, List, Option, Some, None, refl, sym, ap, ◌∙◌, arith}
use Rattle.std.specs.Prelude.{option_and_then}
use Rattle.std.specs.Ordering.{nat_cmp, eq_by_cmp}
use Rattle.std.specs.Cmp.Lexicographic.{slice_cmp, nat_list_cmp_total}
use Rattle.std.specs.FinMap as map
use Rattle.std.specs.FinMap.{empty_of_len, get-empty, len-empty, get-insert, get-remove, slice_cmp-IsAntisymmetric, nat_cmp-IsAntisymmetric}
use Rattle.std.proofs.lemmas.Bool.Decides.{nat_tests}
use Rattle.std.proofs.lemmas.Map.Text.{is_eq-slice_cmp}
use Rattle.std.proofs.lemmas.Slice.Eq.{bytes_eq-Decides}
use Rattle.imap_names.specs.Name.{Name}
use Rattle.imap_names.specs.Order.{name_cmp}
use Rattle.imap_names.proofs.NameLaws.{is_name_at, same_names, get_without}
use Rattle.imap_name_map.specs.Rows as name
use Rattle.imap_user_map.specs.Rows.{Users}
use Rattle.imap_user_map.proofs.Entries.{same_answers}
use Rattle.imap_world.specs.Effects.{if_filled, with_option}
use Rattle.imap_world.specs.Stored.{Subscriptions, filled_sets, names_in}
use Rattle.imap_world.specs.World.{NameSet, set_of}
use Rattle.imap_user_map.proofs.KeptValues.{get-keep}

-- whether two users are one
abbrev pub is_user : List ℕ → List ℕ → Bool
is_user = eq_by_cmp (slice_cmp nat_cmp)

pub equal_users : (q u : List ℕ) → is_user q u ≡ true → q ≡ u
equal_users q u e = (bytes_eq-Decides q u).0 (sym (is_eq-slice_cmp q u) ∙ e)

pub user_itself : (u : List ℕ) → is_user u u ≡ true
user_itself u = is_eq-slice_cmp u u ∙ (bytes_eq-Decides u u).1 refl

module _ {X : Type 0} where
  pub get_with_option : (m : Users X) (u : List ℕ) (o : Option X) (q : List ℕ) → map.get (with_option m u o) q ≡ cond (is_user q u) o (map.get m q)
  get_with_option m u None q = get-remove nat_list_cmp_total m u q
  get_with_option m u (Some x) q = get-insert nat_list_cmp_total m u x q

-- ---- a set that is filled or none

filled_by : (names : NameSet) (b : Bool) → eqb (map.len names) 0 ≡ b → set_of (cond b None (Some names)) ≡ names
filled_by names true e = sym (empty_of_len names (grind (arith, nat_tests)))
filled_by names false e = refl

pub set_of-if_filled : (names : NameSet) → set_of (if_filled names) ≡ names
set_of-if_filled names = filled_by names _ refl

pub if_filled-empty : if_filled map.empty ≡ None
if_filled-empty = ap (λ n. cond (eqb n 0) None (Some (map.empty {X = Unit {0}} {R = name_cmp}))) (len-empty name_cmp (Unit {0}))

-- ---- the sets of users

abbrev rows_filled : List ℕ → name.Rows (Unit {0}) → Option NameSet
rows_filled user rows = if_filled rows.map

pub get_filled : (s : Subscriptions) (q : List ℕ) → map.get (filled_sets s) q ≡ option_and_then (rows_filled q) (map.get s.map q)
get_filled s q = get-keep (slice_cmp nat_cmp) rows_filled (slice_cmp-IsAntisymmetric nat_cmp-IsAntisymmetric) s.map q

filled_names : (o : Option (name.Rows (Unit {0}))) (q : List ℕ) → names_in o ≡ set_of (option_and_then (rows_filled q) o)
filled_names None q = refl
filled_names (Some rows) q = sym (set_of-if_filled rows.map)

-- a user's set is what the filled ones have
pub names_in_filled : (s : Subscriptions) (q : List ℕ) → names_in (map.get s.map q) ≡ set_of (map.get (filled_sets s) q)
names_in_filled s q = filled_names (map.get s.map q) q ∙ ap set_of (sym (get_filled s q))

pub filled_empty : (s : Subscriptions) → s.map ≡ map.empty → filled_sets s ≡ map.empty
filled_empty s none = same_answers _ _ (λ q. get_filled s q ∙ ap (λ (m : Users (name.Rows (Unit {0}))). option_and_then (rows_filled q) (map.get m q)) none ∙ ap (option_and_then (rows_filled q)) (get-empty (slice_cmp nat_cmp) q) ∙ sym (get-empty (slice_cmp nat_cmp) q))

-- with other rows for one user
pub filled_insert : (s t : Subscriptions) (u : List ℕ) (rows : name.Rows (Unit {0})) → t.map ≡ map.insert s.map u rows → filled_sets t ≡ with_option (filled_sets s) u (if_filled rows.map)
filled_insert s t u rows is = same_answers _ _ (λ q. get_filled t q ∙ ap (λ (m : Users (name.Rows (Unit {0}))). option_and_then (rows_filled q) (map.get m q)) is
    ∙ ap (option_and_then (rows_filled q)) (get-insert nat_list_cmp_total s.map u rows q) ∙ by q (is_user q u) ∙ ap (cond (is_user q u) (if_filled rows.map)) (sym (get_filled s q)) ∙ sym (get_with_option (filled_sets s) u (if_filled rows.map) q))
  where
    by : (q : List ℕ) (b : Bool) → option_and_then (rows_filled q) (cond b (Some rows) (map.get s.map q)) ≡ cond b (if_filled rows.map) (option_and_then (rows_filled q) (map.get s.map q))
    by q true = refl
    by q false = refl

-- with what the user has anyway
pub with_same : (s : Subscriptions) (u : List ℕ) (o : Option NameSet) → map.get (filled_sets s) u ≡ o → with_option (filled_sets s) u o ≡ filled_sets s
with_same s u o is = same_answers _ _ (λ q. get_with_option (filled_sets s) u o q ∙ by q (is_user q u) refl)
  where
    by : (q : List ℕ) (b : Bool) → is_user q u ≡ b → cond b o (map.get (filled_sets s) q) ≡ map.get (filled_sets s) q
    by q true e = sym is ∙ ap (map.get (filled_sets s)) (sym (equal_users q u e))
    by q false e = refl

-- another set for a user who has one
pub filled_changed : (f : NameSet → NameSet) (s t : Subscriptions) (u : List ℕ) (before after : name.Rows (Unit {0})) → map.get s.map u ≡ Some before → t.map ≡ map.insert s.map u after → after.map ≡ f before.map
    → filled_sets t ≡ with_option (filled_sets s) u (if_filled (f (set_of (map.get (filled_sets s) u))))
filled_changed f s t u before after there is made =
    let names : before.map ≡ set_of (map.get (filled_sets s) u) = ap names_in (sym there) ∙ names_in_filled s u in
    filled_insert s t u after is ∙ ap (λ names. with_option (filled_sets s) u (if_filled names)) (made ∙ ap f names)

remove_empty : (k : Name) → map.remove (map.empty {X = Unit {0}} {R = name_cmp}) k ≡ map.empty
remove_empty k = same_names _ _ (λ q. get_without (map.empty {X = Unit {0}} {R = name_cmp}) k q ∙ by (map.get (map.empty {X = Unit {0}} {R = name_cmp}) q) (is_name_at q k) (get-empty name_cmp q))
  where
    by : (o : Option (Unit {0})) (b : Bool) → o ≡ None → cond b None o ≡ o
    by o true none = sym none
    by o false none = refl

-- a name is taken out for a user who has no set
pub filled_without : (s : Subscriptions) (u : List ℕ) (k : Name) → map.get s.map u ≡ None → filled_sets s ≡ with_option (filled_sets s) u (if_filled (map.remove (set_of (map.get (filled_sets s) u)) k))
filled_without s u k absent =
    let none : map.get (filled_sets s) u ≡ None = get_filled s u ∙ ap (option_and_then (rows_filled u)) absent in
    sym (ap (λ (o : Option NameSet). with_option (filled_sets s) u (if_filled (map.remove (set_of o) k))) none ∙ ap (λ names. with_option (filled_sets s) u (if_filled names)) (remove_empty k) ∙ ap (with_option (filled_sets s) u) if_filled-empty ∙ with_same s u None none)

-- an empty set for a user who has none
pub filled_added : (s t : Subscriptions) (u : List ℕ) (rows : name.Rows (Unit {0})) → map.get s.map u ≡ None → t.map ≡ map.insert s.map u rows → rows.map ≡ map.empty → filled_sets t ≡ filled_sets s
filled_added s t u rows absent is empty =
    filled_insert s t u rows is ∙ ap (λ names. with_option (filled_sets s) u (if_filled names)) empty ∙ ap (with_option (filled_sets s) u) if_filled-empty ∙ with_same s u None (get_filled s u ∙ ap (option_and_then (rows_filled u)) absent)

-- the same set with other room
pub filled_reserved : (s t : Subscriptions) (u : List ℕ) (before after : name.Rows (Unit {0})) → map.get s.map u ≡ Some before → t.map ≡ map.insert s.map u after → after.map ≡ before.map → filled_sets t ≡ filled_sets s
filled_reserved s t u before after there is same =
    filled_insert s t u after is ∙ ap (λ names. with_option (filled_sets s) u (if_filled names)) same ∙ with_same s u (if_filled before.map) (get_filled s u ∙ ap (option_and_then (rows_filled u)) there)
