-- Users who are put into groups.
use Rattle.std.proofs.Common.{◌≡◌, ℕ, List, Bool, true, false, cond, ◌&&◌, ◌||◌, Option, Some, None, Result, Ok, Err, OnOk, OnErr, refl, sym, ap, ◌∙◌}
use Rattle.std.specs.Prelude.{bytes_eq, is_some, option_map, unwrap_or}
use Rattle.std.specs.Option.{OnSome}
use Rattle.std.specs.Ordering.{nat_cmp}
use Rattle.std.specs.Cmp.Lexicographic.{slice_cmp, nat_list_cmp_total}
use Rattle.std.specs.FinMap as map
use Rattle.std.specs.FinMap.{get-empty, get-insert}
use Rattle.std.proofs.lemmas.Map.Text.{is_eq-slice_cmp}
use Rattle.std.proofs.lemmas.Slice.Eq.{bytes_eq-Decides}
use Rattle.imap_user_map.specs.Rows.{Rows, Users}
use Rattle.imap_user_map.proofs.Changed.{get-map_values}
use Rattle.imap_user_map.proofs.Entries.{same_answers}
use Rattle.imap_rights.specs.Groups.{Members, Names, groups_of, members_of, with_member}
use Rattle.imap_rights.specs.Laws.{MembersAreThoseAdded, OrderOfMembersIsLost}

-- what an insertion leaves at a name
pub get_put : {X : Type 0} (m : Users X) (k : List ℕ) (x : X) (q : List ℕ) → map.get (map.insert m k x) q ≡ cond (bytes_eq q k) (Some x) (map.get m q)
get_put m k x q = get-insert nat_list_cmp_total m k x q ∙ ap (λ b. cond b (Some x) (map.get m q)) (is_eq-slice_cmp q k)

same_name : (q k : List ℕ) → bytes_eq q k ≡ true → q ≡ k
same_name q k e = (bytes_eq-Decides q k).0 e

itself : (q : List ℕ) → bytes_eq q q ≡ true
itself q = (bytes_eq-Decides q q).1 refl

-- ---- the laws

groups_at : (b : Bool) (o p : Option Names) → unwrap_or (cond b o p) map.empty ≡ cond b (unwrap_or o map.empty) (unwrap_or p map.empty)
groups_at true o p = refl
groups_at false o p = refl

groups_after : (members : Members) (group user other : List ℕ)
    → groups_of (with_member members group user) other ≡ cond (bytes_eq other user) (map.insert (groups_of members user) group tt) (groups_of members other)
groups_after members group user other =
    ap (λ o. unwrap_or o map.empty) (get_put members user (map.insert (groups_of members user) group tt) other)
    ∙ groups_at (bytes_eq other user) (Some (map.insert (groups_of members user) group tt)) (map.get members other)

is_in : (b : Bool) (o : Option (Unit {0})) → is_some (cond b (Some tt) o) ≡ (b || is_some o)
is_in true o = refl
is_in false o = refl

pub those_added : MembersAreThoseAdded
those_added members group user other_group other =
    ap (λ (m : Names). is_some (map.get m other_group)) (groups_after members group user other) ∙ by (bytes_eq other user) refl
  where
    by : (b : Bool) → bytes_eq other user ≡ b
        → is_some (map.get (cond b (map.insert (groups_of members user) group tt) (groups_of members other)) other_group) ≡ ((b && bytes_eq other_group group) || is_some (map.get (groups_of members other) other_group))
    by true here =
        ap is_some (get_put (groups_of members user) group tt other_group) ∙ is_in (bytes_eq other_group group) (map.get (groups_of members user) other_group)
        ∙ ap (λ u. bytes_eq other_group group || is_some (map.get (groups_of members u) other_group)) (sym (same_name other user here))
    by false here = refl

-- two insertions in either order, of values that agree where the names do
pub either_order : {X : Type 0} (m : Users X) (k l : List ℕ) (x y : X) → (k ≡ l → x ≡ y) → map.insert (map.insert m k x) l y ≡ map.insert (map.insert m l y) k x
either_order {X} m k l x y agree = same_answers _ _ (λ q.
    get_put (map.insert m k x) l y q ∙ ap (cond (bytes_eq q l) (Some y)) (get_put m k x q)
    ∙ by q (bytes_eq q k) (bytes_eq q l) refl refl
    ∙ sym (get_put (map.insert m l y) k x q ∙ ap (cond (bytes_eq q k) (Some x)) (get_put m l y q)))
  where
    by : (q : List ℕ) (a b : Bool) → bytes_eq q k ≡ a → bytes_eq q l ≡ b
        → cond b (Some y) (cond a (Some x) (map.get m q)) ≡ cond a (Some x) (cond b (Some y) (map.get m q))
    by q true true e f = ap Some (sym (agree (sym (same_name q k e) ∙ same_name q l f)))
    by q true false e f = refl
    by q false true e f = refl
    by q false false e f = refl

-- a later value takes the place of an earlier one
pub put_again : {X : Type 0} (m : Users X) (k : List ℕ) (x y : X) → map.insert (map.insert m k x) k y ≡ map.insert m k y
put_again {X} m k x y = same_answers _ _ (λ q.
    get_put (map.insert m k x) k y q ∙ ap (cond (bytes_eq q k) (Some y)) (get_put m k x q) ∙ by (bytes_eq q k) (map.get m q) ∙ sym (get_put m k y q))
  where
    by : (b : Bool) (o : Option X) → cond b (Some y) (cond b (Some x) o) ≡ cond b (Some y) o
    by true o = refl
    by false o = refl

pub any_order : OrderOfMembersIsLost
any_order members group user other_group other = by (bytes_eq other user) refl
  where
    own : Names
    own = groups_of members user

    others : Names
    others = groups_of members other

    by : (b : Bool) → bytes_eq other user ≡ b → with_member (with_member members group user) other_group other ≡ with_member (with_member members other_group other) group user
    by true here =
        let same : other ≡ user = same_name other user here in
        let of_user : (g : List ℕ) → groups_of (with_member members g user) user ≡ map.insert (groups_of members user) g tt =
        λ g. groups_after members g user user ∙ ap (λ b. cond b (map.insert (groups_of members user) g tt) (groups_of members user)) (itself user) in
        ap (λ o. with_member (with_member members group user) other_group o) same
        ∙ ap (λ n. map.insert (with_member members group user) user (map.insert n other_group tt)) (of_user group)
        ∙ put_again members user (map.insert (groups_of members user) group tt) (map.insert (map.insert (groups_of members user) group tt) other_group tt)
        ∙ ap (map.insert members user) (either_order (groups_of members user) group other_group tt tt (λ _. refl))
        ∙ sym (put_again members user (map.insert (groups_of members user) other_group tt) (map.insert (map.insert (groups_of members user) other_group tt) group tt))
        ∙ sym (ap (λ n. map.insert (with_member members other_group user) user (map.insert n group tt)) (of_user other_group))
        ∙ ap (λ o. with_member (with_member members other_group o) group user) (sym same)
    by false here =
        let apart : bytes_eq user other ≡ false = not_same here in
        ap (λ n. map.insert (with_member members group user) other (map.insert n other_group tt))
        (groups_after members group user other ∙ ap (λ b. cond b (map.insert (groups_of members user) group tt) (groups_of members other)) here)
        ∙ either_order members user other (map.insert (groups_of members user) group tt) (map.insert (groups_of members other) other_group tt) (λ e. absurd (differ e here))
        ∙ sym (ap (λ n. map.insert (with_member members other_group other) user (map.insert n group tt))
        (groups_after members other_group other user ∙ ap (λ b. cond b (map.insert (groups_of members other) other_group tt) (groups_of members user)) apart))
      where
        differ : user ≡ other → bytes_eq other user ≡ false → ⊥
        differ e h = absurd (cc (sym h ∙ (bytes_eq-Decides other user).1 (sym e)))

        not_same : bytes_eq other user ≡ false → bytes_eq user other ≡ false
        not_same h = turned (bytes_eq user other) refl
          where
            turned : (b : Bool) → bytes_eq user other ≡ b → b ≡ false
            turned true e = absurd (differ (same_name user other e) h)
            turned false e = refl

-- ---- a table with room

get_members : (rows : Rows (Rows (Unit {0}))) (q : List ℕ) → map.get (members_of rows) q ≡ option_map (λ names. names.map) (map.get rows.map q)
get_members rows q = get-map_values (λ names. names.map) rows.map q

pub members_none : (rows : Rows (Rows (Unit {0}))) → rows.map ≡ map.empty → members_of rows ≡ map.empty
members_none rows none = same_answers _ _ (λ q.
    get_members rows q ∙ ap (λ m. option_map (λ names. names.map) (map.get m q)) none ∙ ap (option_map (λ (n : Rows (Unit {0})). n.map)) (get-empty (slice_cmp nat_cmp) q)
    ∙ sym (get-empty (slice_cmp nat_cmp) q))

pub of_some : {X : Type 0} {P : Type 0} (r : Option X) (x : X) → r ≡ Some x → OnSome r P → P
of_some None x e h = absurd (cc)
of_some (Some y) x e h = h

pub of_ok : {T E P Q : Type 0} (r : Result T E) → OnOk r P → (P → Q) → OnOk r Q
of_ok (Ok x) p f = f p
of_ok (Err e) p f = tt

pub of_err : {T E P Q : Type 0} (r : Result T E) → OnErr r P → (P → Q) → OnErr r Q
of_err (Ok x) p f = tt
of_err (Err e) p f = f p

pub none_of : {X : Type 0} (o : Option X) → is_some o ≡ false → o ≡ None
none_of None e = refl
none_of (Some x) e = cc

pub none_there : {X : Type 0} (o : Option X) → is_some o ≡ true → o ≡ None → ⊥
none_there o e none = absurd (cc (sym e ∙ ap is_some none))

-- the groups of a user who has some
pub groups_there : (rows : Rows (Rows (Unit {0}))) (user : List ℕ) (names : Rows (Unit {0})) → map.get rows.map user ≡ Some names → groups_of (members_of rows) user ≡ names.map
groups_there rows user names there = ap (λ o. unwrap_or o map.empty) (get_members rows user ∙ ap (option_map (λ names. names.map)) there)

pub groups_absent : (rows : Rows (Rows (Unit {0}))) (user : List ℕ) → map.get rows.map user ≡ None → groups_of (members_of rows) user ≡ map.empty
groups_absent rows user absent = ap (λ o. unwrap_or o map.empty) (get_members rows user ∙ ap (option_map (λ names. names.map)) absent)

-- the table with other names of a user
pub members_put : (rows new : Rows (Rows (Unit {0}))) (user : List ℕ) (names : Rows (Unit {0})) → new.map ≡ map.insert rows.map user names → members_of new ≡ map.insert (members_of rows) user names.map
members_put rows new user names is = same_answers _ _ (λ q.
    get_members new q ∙ ap (λ m. option_map (λ names. names.map) (map.get m q)) is ∙ ap (option_map (λ names. names.map)) (get_put rows.map user names q)
    ∙ by q (bytes_eq q user) ∙ sym (get_put (members_of rows) user names.map q))
  where
    by : (q : List ℕ) (b : Bool) → option_map (λ (n : Rows (Unit {0})). n.map) (cond b (Some names) (map.get rows.map q)) ≡ cond b (Some names.map) (map.get (members_of rows) q)
    by q true = refl
    by q false = sym (get_members rows q)

-- the names of a user put back
pub members_kept : (rows new : Rows (Rows (Unit {0}))) (user : List ℕ) (old names : Rows (Unit {0})) → map.get rows.map user ≡ Some old
    → new.map ≡ map.insert rows.map user names → names.map ≡ old.map → members_of new ≡ members_of rows
members_kept rows new user old names there is kept =
    members_put rows new user names is ∙ ap (map.insert (members_of rows) user) kept ∙ same_answers _ _ (λ q. get_put (members_of rows) user old.map q ∙ by q (bytes_eq q user) refl)
  where
    by : (q : List ℕ) (b : Bool) → bytes_eq q user ≡ b → cond b (Some old.map) (map.get (members_of rows) q) ≡ map.get (members_of rows) q
    by q true here = sym (ap (map.get (members_of rows)) (same_name q user here) ∙ get_members rows user ∙ ap (option_map (λ names. names.map)) there)
    by q false here = refl
