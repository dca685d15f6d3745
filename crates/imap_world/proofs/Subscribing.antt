-- Subscriptions of all users, one row after another.
use Rattle.std.proofs.Common.{◌≡◌, ℕ, ◌+◌, ◌≤◌, Bool, true, false, cond, ◌&&◌, List, [], ◌∷◌, Option, Some, None, Result, Ok, Err, is_some, refl, sym, ap, ◌∙◌, arith, IsPermutation}
use Rattle.std.specs.Prelude.{bytes_eq}
use Rattle.std.specs.FinMap as map
use Rattle.std.specs.FinMap.{get-empty, get-insert}
use Rattle.std.specs.Cmp.Lexicographic.{nat_list_cmp_total}
use Rattle.std.specs.List.{count_by}
use Rattle.std.proofs.lemmas.List.Sorted.{sum_by-IsPermutation}
use Rattle.std.proofs.lemmas.List.Sums.{sum_by-cons}
use Rattle.std.proofs.lemmas.Map.Text.{is_eq-slice_cmp}
use Rattle.std.proofs.lemmas.Slice.Eq.{bytes_eq-Decides}
use Rattle.imap_batch.specs.PartsError.{PartsError}
use Rattle.imap_batch.specs.PartsError.TheVariants.{Bad, Memory}
use Rattle.imap_name_map.specs.Rows as name
use Rattle.imap_names.specs.Name.{Name}
use Rattle.imap_names.specs.Order.{name_cmp}
use Rattle.imap_names.proofs.NameLaws.{equal_names, get_put, is_name_at, is_name_at-same}
use Rattle.imap_world.specs.Parts.{AreSubscriptions, is_subscription}
use Rattle.imap_world.specs.Restored.{AddsName, HaveName, RestoresNames, Subscribes, names_at}
use Rattle.imap_world.specs.Stored.{Subscriptions, names_in}
use Rattle.imap_world.specs.Subscription.{Subscription}
use Rattle.imap_world.specs.World.{World, set_of, subscribed_by}
use Rattle.imap_world.proofs.Sets.{names_in_filled}

abbrev present : Option (Unit {0})
present = Some tt

abbrev one : Bool → ℕ
one b = cond b 1 0

-- the rows are those of the sets, and those that are left
abbrev pub AreSoFar : (rows rest : List Subscription) → Subscriptions → Type 0
AreSoFar rows rest sets =
    (user : List ℕ) (name : Name) → count_by (is_subscription user name) rows ≡ one (map.contains_key (names_at sets user) name) + count_by (is_subscription user name) rest

pub none_so_far : (rows ordered : List Subscription) (sets : Subscriptions) → sets.map ≡ map.empty → IsPermutation rows ordered → AreSoFar rows ordered sets
none_so_far rows ordered sets none moved user name =
    let same = sum_by-IsPermutation (λ (s : Subscription). one (is_subscription user name s)) rows ordered moved in
    let empty : one (map.contains_key (names_at sets user) name) ≡ 0 = ap (λ m. one (map.contains_key (names_in (map.get m user)) name)) none ∙ ap (λ o. one (map.contains_key (names_in o) name)) (get-empty _ user) ∙ ap (λ o. one (is_some o)) (get-empty name_cmp name) in
    omega (arith, same, empty)

one_more : (b : Bool) → one b ≤ 1
one_more true = omega arith
one_more false = omega arith

module _ (rows rest : List Subscription) (row : Subscription) (old : Subscriptions) where
  counted : (user : List ℕ) (name : Name) → count_by (is_subscription user name) (row ∷ rest) ≡ one (is_subscription user name row) + count_by (is_subscription user name) rest
  counted user name = sum_by-cons (λ (s : Subscription). one (is_subscription user name s)) row rest

  module _ (new : Subscriptions) (fresh : map.contains_key (names_at old row.user) row.name ≡ false) (have : HaveName row old new) where
    has_more : (user : List ℕ) (name : Name) → one (map.contains_key (names_at new user) name) ≡ one (map.contains_key (names_at old user) name) + one (is_subscription user name row)
    has_more user name = by (bytes_eq user row.user) refl (have user)
      where
        by_name : (c : Bool) → is_name_at name row.name ≡ c → user ≡ row.user
            → one (is_some (cond c present (map.get (names_at old user) name))) ≡ one (map.contains_key (names_at old user) name) + one c
        by_name true at is =
            let absent : one (map.contains_key (names_at old user) name) ≡ 0 = ap one (ap (λ u. map.contains_key (names_at old u) name) is ∙ ap (map.contains_key (names_at old row.user)) (equal_names name row.name at) ∙ fresh) in
            omega (arith, absent)
        by_name false at is = omega arith

        by : (b : Bool) → bytes_eq user row.user ≡ b → names_at new user ≡ cond b (map.insert (names_at old user) row.name tt) (names_at old user)
            → one (map.contains_key (names_at new user) name) ≡ one (map.contains_key (names_at old user) name) + one (b && is_name_at name row.name)
        by true e is =
            ap (λ m. one (map.contains_key m name)) is ∙ ap (λ o. one (is_some o)) (get_put (names_at old user) row.name tt name)
            ∙ by_name (is_name_at name row.name) refl ((bytes_eq-Decides user row.user).0 e)
        by false e is =
            let same : one (map.contains_key (names_at new user) name) ≡ one (map.contains_key (names_at old user) name) = ap (λ m. one (map.contains_key m name)) is in
            omega (arith, same)

    pub one_so_far : AreSoFar rows (row ∷ rest) old → AreSoFar rows rest new
    one_so_far so_far user name = omega (arith, so_far user name, counted user name, has_more user name)

  pub is_twice : map.contains_key (names_at old row.user) row.name ≡ true → AreSoFar rows (row ∷ rest) old → (world : World) → AreSubscriptions rows world → ⊥
  is_twice there so_far world are =
      let first : one (map.contains_key (names_at old row.user) row.name) ≡ 1 = ap one there in
      let second : one (is_subscription row.user row.name row) ≡ 1 = ap one ((λ i. (bytes_eq-Decides row.user row.user).1 refl i && is_name_at-same row.name i)) in
      let most = one_more (map.contains_key (subscribed_by world row.user) row.name) in
      absurd (omega (arith, so_far row.user row.name, counted row.user row.name, first, second, are row.user row.name, most))

  pub refused : (new : Subscriptions) (error : PartsError) → AreSoFar rows (row ∷ rest) old → Subscribes row old new (Err error) → RestoresNames rows (Err error)
  refused new Bad so_far h = is_twice h so_far
  refused new Memory so_far h = tt

pub all_so_far : (rows : List Subscription) (sets : Subscriptions) → AreSoFar rows [] sets → RestoresNames rows (Ok sets)
all_so_far rows sets h world is user name =
    let same : map.contains_key (names_at sets user) name ≡ map.contains_key (subscribed_by world user) name = ap (λ m. map.contains_key m name) (names_in_filled sets user ∙ ap (λ m. set_of (map.get m user)) (sym is)) in
    omega (arith, h user name, ap one same)

-- ---- one row

pub has_name : (row : Subscription) (old new : Subscriptions) (rows : name.Rows (Unit {0})) → new.map ≡ map.insert old.map row.user rows
    → rows.map ≡ map.insert (names_at old row.user) row.name tt → HaveName row old new
has_name row old new rows is made user =
    ap (λ m. names_in (map.get m user)) is ∙ ap names_in (get-insert nat_list_cmp_total old.map row.user rows user)
    ∙ ap (λ b. names_in (cond b (Some rows) (map.get old.map user))) (is_eq-slice_cmp user row.user)
    ∙ by (bytes_eq user row.user) refl
  where
    by : (b : Bool) → bytes_eq user row.user ≡ b → names_in (cond b (Some rows) (map.get old.map user)) ≡ cond b (map.insert (names_at old user) row.name tt) (names_at old user)
    by true e = made ∙ ap (λ u. map.insert (names_at old u) row.name tt) (sym ((bytes_eq-Decides user row.user).0 e))
    by false e = refl

-- a name that goes to the set of a user who has one
pub subscribes : (row : Subscription) (old new : Subscriptions) (before after : name.Rows (Unit {0})) → map.get old.map row.user ≡ Some before → new.map ≡ map.insert old.map row.user after
    → (r : Result (Unit {0}) PartsError) → AddsName row.name before.map after.map r → Subscribes row old new r
subscribes row old new before after there is (Ok done) h =
    let at : names_at old row.user ≡ before.map = ap names_in there in (
      ap (λ m. map.contains_key m row.name) at ∙ h.0,
      has_name row old new after is (h.1 ∙ ap (λ m. map.insert m row.name tt) (sym at)),
    )
subscribes row old new before after there is (Err Bad) h = ap (λ m. map.contains_key m row.name) (ap names_in there) ∙ h
subscribes row old new before after there is (Err Memory) h = tt

pub absent : (sets : Subscriptions) (user : List ℕ) (name : Name) → map.get sets.map user ≡ None → map.contains_key (names_at sets user) name ≡ false
absent sets user name none = ap (λ o. map.contains_key (names_in o) name) none ∙ ap is_some (get-empty name_cmp name)
