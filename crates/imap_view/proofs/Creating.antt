-- The view after CREATE.
use Rattle.std.proofs.Common.{◌≡◌, ◌⊎◌, inl, inr, ℕ, ◌<◌, ◌≤◌, Bool, true, false, cond, not, ◌&&◌, List, [], ◌∷◌, ◌++◌, length, map as map_list, Option, Some, None, Ok, Err, refl, sym, ap, subst, ◌∙◌, true≢false, arith}
use Rattle.std.specs.List.{AllByRecursion}
use Rattle.std.specs.Prelude.{nat_lt, is_some, option_and_then, option_map, unwrap_or, bytes_eq}
use Rattle.std.specs.FinMap as map
use Rattle.std.proofs.lemmas.Bool.{and_parts, or_parts, or_cases, not-true, ltb-true, ne_eqb}
use Rattle.std.proofs.lemmas.List.{map-append}
use Rattle.std.proofs.lemmas.List.Folds.{list_all-append}
use Rattle.std.proofs.lemmas.Slice.Eq.{bytes_eq-Decides}
use Rattle.imap_names.specs.Name.{Name, root_of}
use Rattle.imap_world.specs.Acl.{AclMap, owner_acl}
use Rattle.imap_world.specs.Effective.{effective}
use Rattle.imap_world.specs.Rights.{create, has_any, visible_rights}
use Rattle.imap_world.specs.declared.site.Site.{Site}
use Rattle.imap_world.specs.declared.error.WorldError.TheVariants.{Limit}
use Rattle.imap_world.specs.Mailbox.{Mailbox, new_mailbox}
use Rattle.imap_world.specs.Effects.{new_row}
use Rattle.imap_world.specs.NewMailbox.{NewMailbox}
use Rattle.imap_world.specs.Tree.{acl_or, inherited, with_last, rows_for}
use Rattle.imap_world.specs.World.{World, epoch, max_validity}
use Rattle.imap_view.specs.Seen.{Seen, is_root, owner_by_root, owner_of, seen_at, seen_by_rights, seen_with}
use Rattle.imap_view.specs.TreeAfter.{is_known, missing_in, new_seen, seen_anew, seen_or, validities_left, may_make, IsCreation, CreatingIsSeen}
use Rattle.imap_view.specs.View.{View, view_of, seen_in, may_know_name, may_know_name_in, creatable_below, may_create, rights_of}
use Rattle.imap_view.proofs.Narrowing.{shows_names, place_below, deeper_below, get_epochs}
use Rattle.imap_view.proofs.Placed.{each_weaker, each_push, each_mapped, row_of, IsNew, rows_seen}
use Rattle.imap_view.proofs.Views.{site_of, user_of, get_seen, contains_taken}

-- ---- who may create under a name knows the names there

deeper : (o : Option Seen) (taken rest : Bool) → is_some o ≡ false → creatable_below o taken rest ≡ true → rest ≡ true
deeper None taken rest none e = (and_parts (not taken) rest e).1
deeper (Some s) taken rest none e = absurd (true≢false none)

unknown : (o : Option Seen) (taken rest : Bool) → is_some o ≡ false → creatable_below o taken rest ≡ true → taken ≡ false
unknown None taken rest none e = not-true taken (and_parts (not taken) rest e).0
unknown (Some s) taken rest none e = absurd (true≢false none)

pub creatable_is_below : (view : View) (name : Name) → may_create view name ≡ true → may_know_name_in view name ≡ true
creatable_is_below view [] e = e
creatable_is_below view (root ∷ []) e = absurd (true≢false (sym e))
creatable_is_below view (deepest ∷ root ∷ []) e = place_below view.site view.user view.seen deepest (root ∷ []) e
creatable_is_below view (deepest ∷ above ∷ next ∷ more) e =
    by (map.get view.seen (above ∷ next ∷ more)) refl (creatable_is_below view (above ∷ next ∷ more))
  where
    by : (o : Option Seen) → map.get view.seen (above ∷ next ∷ more) ≡ o → (may_create view (above ∷ next ∷ more) ≡ true → may_know_name_in view (above ∷ next ∷ more) ≡ true)
        → may_know_name_in view (deepest ∷ above ∷ next ∷ more) ≡ true
    by None is rest =
        deeper_below view.site view.user view.seen deepest (above ∷ next ∷ more)
        (rest (deeper None (map.contains_key view.taken (above ∷ next ∷ more)) (may_create view (above ∷ next ∷ more)) refl
        (ap (λ o. creatable_below o (map.contains_key view.taken (above ∷ next ∷ more)) (may_create view (above ∷ next ∷ more))) (sym is) ∙ e)))
    by (Some s) is rest =
        place_below view.site view.user view.seen deepest (above ∷ next ∷ more)
        (shows_names (map.get view.seen (above ∷ next ∷ more)) create refl
        (ap (λ o. has_any (rights_of o) create) is ∙ ap (λ o. creatable_below o (map.contains_key view.taken (above ∷ next ∷ more)) (may_create view (above ∷ next ∷ more))) (sym is) ∙ e))

-- the superior lets the user create too, if the user doesn't know of it
pub above_creatable : (view : View) (deepest above : List ℕ) (more : Name) → may_create view (deepest ∷ above ∷ more) ≡ true → is_known view (above ∷ more) ≡ false → is_root (above ∷ more) ≡ false → may_create view (above ∷ more) ≡ true
above_creatable view deepest above [] e unseen named = absurd (true≢false named)
above_creatable view deepest above (next ∷ more) e unseen named =
    deeper (map.get view.seen (above ∷ next ∷ more)) (map.contains_key view.taken (above ∷ next ∷ more)) (may_create view (above ∷ next ∷ more)) (or_parts _ _ unseen).0 e

-- ---- the mailboxes that are there, and those that the user knows of

was_some : {X Y : Type 0} (f : X → Option Y) (o : Option X) → is_some (option_and_then f o) ≡ true → is_some o ≡ true
was_some f None e = e
was_some f (Some x) e = refl

without_other : (a b : Bool) → b ≡ true → (a && b) ≡ a
without_other true b e = e
without_other false b e = refl

pub equal_octets : (a b : List ℕ) → bytes_eq a b ≡ true → a ≡ b
equal_octets a b e = (bytes_eq-Decides a b).0 e

module _ (site : Site) (user : List ℕ) (world : World) where
  abbrev view : View
  view = view_of site user world

  pub known_is_there : (name : Name) → is_known view name ≡ true → map.contains_key world.mailboxes name ≡ true
  known_is_there name e = by (or_cases (map.contains_key view.seen name) (map.contains_key view.taken name) e)
    where
      by : (map.contains_key view.seen name ≡ true) ⊎ (map.contains_key view.taken name ≡ true) → map.contains_key world.mailboxes name ≡ true
      by (inl h) = was_some (seen_at site user name) (map.get world.mailboxes name) (ap is_some (sym (get_seen site user world name)) ∙ h)
      by (inr h) = (and_parts (map.contains_key world.mailboxes name) _ (sym (contains_taken site user world name) ∙ h)).0

  pub creatable_there : (name : Name) → may_create view name ≡ true → may_know_name site user (seen_in site user world) name ≡ true
  unfolding view_of
  creatable_there name may = creatable_is_below (view_of site user world) name may

  taken_is_there : (name : Name) → may_create view name ≡ true → map.contains_key view.taken name ≡ map.contains_key world.mailboxes name
  unfolding view_of
  taken_is_there name may =
      contains_taken site user world name
      ∙ without_other (map.contains_key world.mailboxes name) (may_know_name site user (seen_in site user world) name) (creatable_there name may)

  counted_there : (name : Name) → may_create view name ≡ true → epoch world.epochs name ≡ epoch view.epochs name
  unfolding view_of
  counted_there name may =
      sym (ap (λ o. unwrap_or o 0) (get_epochs site user (seen_in site user world) world name ∙ ap (λ b. cond b (map.get world.epochs name) None) (creatable_there name may)))

  -- ---- the rows

  -- on the way from the name up, below what is there
  record IsMissing (name : Name) (missing : Name) : Type 0 where
    pub may : may_create view missing ≡ true
    pub absent : map.contains_key world.mailboxes missing ≡ false
    pub named : is_root missing ≡ false
    pub tree : root_of missing ≡ root_of name
    pub short : length missing ≤ length name

  record AreMissing (acl : AclMap) (name : Name) (names : List Name) : Type 0 where
    pub rows : rows_for world acl name ≡ Ok (map_list (row_of world.epochs acl) names)
    pub each : AllByRecursion (IsMissing name) names

  new_row_left : (name : Name) (acl : AclMap) → may_create view name ≡ true → nat_lt (epoch view.epochs name) max_validity ≡ true → new_row world.epochs name acl ≡ Ok (row_of world.epochs acl name)
  new_row_left name acl may left =
      ap (λ b. cond b (Err Limit) (Ok (row_of world.epochs acl name))) (ne_eqb (epoch world.epochs name) max_validity (λ e. not_above (sym (counted_there name may) ∙ e) (ltb-true _ _ left)))
    where
      not_above : {n : ℕ} → n ≡ max_validity → n < max_validity → ⊥
      not_above is less = omega (arith, is, less)

  missing : (acl : AclMap) (name : Name) → (is_known view name ≡ false → is_root name ≡ false → may_create view name ≡ true) → validities_left view (missing_in view name) ≡ true → AreMissing acl name (missing_in view name)
  missing acl [] may left = record { rows = refl; each = tt }
  missing acl (root ∷ []) may left = record { rows = refl; each = tt }
  missing acl (deepest ∷ above ∷ more) may left = by (is_known view (deepest ∷ above ∷ more)) refl (missing acl (above ∷ more))
    where
      by : (b : Bool) → is_known view (deepest ∷ above ∷ more) ≡ b
          → ((is_known view (above ∷ more) ≡ false → is_root (above ∷ more) ≡ false → may_create view (above ∷ more) ≡ true) → validities_left view (missing_in view (above ∷ more)) ≡ true → AreMissing acl (above ∷ more) (missing_in view (above ∷ more)))
          → AreMissing acl (deepest ∷ above ∷ more) (missing_in view (deepest ∷ above ∷ more))
      by true is rest =
          subst (AreMissing acl (deepest ∷ above ∷ more)) (sym (ap (λ b. cond b [] (missing_in view (above ∷ more) ++ (deepest ∷ above ∷ more) ∷ [])) is))
          (record {
            rows = ap (λ b. cond b (Ok []) (with_last (rows_for world acl (above ∷ more)) (new_row world.epochs (deepest ∷ above ∷ more) acl))) (known_is_there (deepest ∷ above ∷ more) is);
            each = tt;
          })
      by false is rest =
          let path = ap (λ b. cond b [] (missing_in view (above ∷ more) ++ (deepest ∷ above ∷ more) ∷ [])) is in
          let mine = may is refl in
          let absent : map.contains_key world.mailboxes (deepest ∷ above ∷ more) ≡ false = sym (taken_is_there (deepest ∷ above ∷ more) mine) ∙ (or_parts (map.contains_key view.seen (deepest ∷ above ∷ more)) (map.contains_key view.taken (deepest ∷ above ∷ more)) is).1 in
          let lefts = and_parts _ _ (sym (list_all-append (λ name. nat_lt (epoch view.epochs name) max_validity) (missing_in view (above ∷ more)) ((deepest ∷ above ∷ more) ∷ [])) ∙ ap (validities_left view) (sym path) ∙ left) in
          let others = rest (above_creatable view deepest above more mine) lefts.0 in
          subst (AreMissing acl (deepest ∷ above ∷ more)) (sym path)
          (record {
            rows = ap (λ b. cond b (Ok []) (with_last (rows_for world acl (above ∷ more)) (new_row world.epochs (deepest ∷ above ∷ more) acl))) absent
                ∙ (λ i. with_last (others.rows i) (new_row_left (deepest ∷ above ∷ more) acl mine (and_parts _ _ lefts.1).0 i))
                ∙ ap (λ rows. Ok rows) (sym (map-append (row_of world.epochs acl) (missing_in view (above ∷ more)) ((deepest ∷ above ∷ more) ∷ [])));
            each = each_push (IsMissing (deepest ∷ above ∷ more)) (missing_in view (above ∷ more)) (deepest ∷ above ∷ more)
                (each_weaker (IsMissing (above ∷ more)) (IsMissing (deepest ∷ above ∷ more)) (missing_in view (above ∷ more)) (λ q h. record { may = h.may; absent = h.absent; named = h.named; tree = h.tree; short = omega (arith, h.short) }) others.each)
                (record { may = mine; absent = absent; named = refl; tree = refl; short = omega arith });
          })

  -- ---- how the new mailboxes are seen

  abbrev seen_by : ℕ → List ℕ → AclMap → Option Seen
  seen_by validity owner acl = seen_with site user (effective user owner site.groups acl) (new_mailbox validity acl)

  -- by the list of another mailbox, without its messages
  anew : (validity rights : ℕ) (m : Mailbox) → seen_with site user rights (new_mailbox validity m.acl) ≡ option_map (seen_anew view.site view.user validity) (seen_with site user rights m)
  anew validity rights m =
      by (has_any rights visible_rights)
      ∙ (λ i. option_map (seen_anew (sym (site_of site user world) i) (sym (user_of site user world) i) validity) (seen_with site user rights m))
    where
      by : (b : Bool) → cond b (Some (seen_by_rights site user rights (new_mailbox validity m.acl))) None
          ≡ option_map (seen_anew site user validity) (cond b (Some (seen_by_rights site user rights m)) None)
      by true = refl
      by false = refl

  inherits : (validity : ℕ) (name : Name) → may_create view name ≡ true → seen_by validity (owner_of site name) (inherited world.mailboxes (owner_of site name) name) ≡ new_seen view name validity
  inherits validity [] may = absurd (true≢false (sym may))
  inherits validity (root ∷ []) may = absurd (true≢false (sym may))
  inherits validity (deepest ∷ root ∷ []) may =
      let own : owner_by_root site root ≡ view.user =
      ap (λ a. owner_by_root a root) (sym (site_of site user world)) ∙ equal_octets (owner_by_root view.site root) view.user may in
      λ i. seen_with (sym (site_of site user world) i) (sym (user_of site user world) i) (effective (sym (user_of site user world) i) (own i) (sym (site_of site user world) i).groups (owner_acl (own i))) (new_mailbox validity (owner_acl (own i)))
  inherits validity (deepest ∷ above ∷ next ∷ more) may = by (map.get world.mailboxes (above ∷ next ∷ more)) refl (inherits validity (above ∷ next ∷ more))
    where
      owner : List ℕ
      owner = owner_of site (above ∷ next ∷ more)

      rest_may : is_some (map.get view.seen (above ∷ next ∷ more)) ≡ false → may_create view (above ∷ next ∷ more) ≡ true
      rest_may none = deeper (map.get view.seen (above ∷ next ∷ more)) (map.contains_key view.taken (above ∷ next ∷ more)) (may_create view (above ∷ next ∷ more)) none may

      rest_free : is_some (map.get view.seen (above ∷ next ∷ more)) ≡ false → map.contains_key view.taken (above ∷ next ∷ more) ≡ false
      rest_free none = unknown (map.get view.seen (above ∷ next ∷ more)) (map.contains_key view.taken (above ∷ next ∷ more)) (may_create view (above ∷ next ∷ more)) none may

      there : (o : Option Mailbox) → map.get world.mailboxes (above ∷ next ∷ more) ≡ o → map.get view.seen (above ∷ next ∷ more) ≡ option_and_then (seen_at site user (above ∷ next ∷ more)) o
      there o is = get_seen site user world (above ∷ next ∷ more) ∙ ap (option_and_then (seen_at site user (above ∷ next ∷ more))) is

      shown : (m : Mailbox) → map.get world.mailboxes (above ∷ next ∷ more) ≡ Some m → (o : Option Seen) → map.get view.seen (above ∷ next ∷ more) ≡ o
          → seen_by validity owner m.acl ≡ seen_or (option_map (seen_anew view.site view.user validity) o) (new_seen view (above ∷ next ∷ more) validity)
      shown m is (Some s) at =
          anew validity (effective user owner site.groups m.acl) m
          ∙ ap (option_map (seen_anew view.site view.user validity)) (sym (there (Some m) is) ∙ at)
      shown m is None at =
          absurd (true≢false (sym (sym (rest_free (ap is_some at)) ∙ taken_is_there (above ∷ next ∷ more) (rest_may (ap is_some at)) ∙ ap is_some is)))

      by : (o : Option Mailbox) → map.get world.mailboxes (above ∷ next ∷ more) ≡ o → (may_create view (above ∷ next ∷ more) ≡ true → seen_by validity owner (inherited world.mailboxes owner (above ∷ next ∷ more)) ≡ new_seen view (above ∷ next ∷ more) validity)
          → seen_by validity owner (acl_or o (inherited world.mailboxes owner (above ∷ next ∷ more)))
          ≡ seen_or (option_map (seen_anew view.site view.user validity) (map.get view.seen (above ∷ next ∷ more))) (new_seen view (above ∷ next ∷ more) validity)
      by None is rest =
          rest (rest_may (ap is_some (there None is)))
          ∙ ap (λ o. seen_or (option_map (seen_anew view.site view.user validity) o) (new_seen view (above ∷ next ∷ more) validity)) (sym (there None is))
      by (Some m) is rest = shown m is (map.get view.seen (above ∷ next ∷ more)) refl

  seen_alike : (name : Name) → may_create view name ≡ true → (q : Name) → is_root q ≡ false → root_of q ≡ root_of name → (validity : ℕ)
      → seen_at site user q (new_mailbox validity (inherited world.mailboxes (owner_of site name) name)) ≡ new_seen view name validity
  seen_alike name may q named tree validity =
      (λ i. cond (named i) None (seen_by validity (owner_by_root site (tree i)) (inherited world.mailboxes (owner_of site name) name)))
      ∙ inherits validity name may

-- the row is of a name below a place that isn't there, and no longer than this
pub record IsFresh (site : Site) (user : List ℕ) (world : World) (longest : ℕ) (row : NewMailbox) : Type 0 where
  pub below : may_know_name site user (seen_in site user world) row.name ≡ true
  pub absent : map.contains_key world.mailboxes row.name ≡ false
  pub short : length row.name ≤ longest

-- a creation, with what holds of its rows
pub record Creates (site : Site) (user : List ℕ) (world : World) (name : Name) : Type 0 where
  pub creation : IsCreation site user world name
  pub fresh : AllByRecursion (IsFresh site user world (length name)) creation.rows

pub creates : (site : Site) (user : List ℕ) (world : World) (name : Name) → may_make (view_of site user world) name ≡ true → Creates site user world name
creates site user world name may =
    let parts = and_parts (may_create (view_of site user world) name) _ may in
    let more = and_parts (not (map.contains_key (view_of site user world).taken name)) _ parts.1 in
    let acl = inherited world.mailboxes (owner_of site name) name in
    let missings = missing site user world acl name (λ unseen named. parts.0) more.1 in
    record {
      creation = record {
        rows = map_list (row_of world.epochs acl) (missing_in (view_of site user world) name);
        absent = sym (taken_is_there site user world name parts.0) ∙ not-true _ more.0;
        made = missings.rows;
        seen = rows_seen site user world.epochs (view_of site user world).epochs acl (new_seen (view_of site user world) name)
            (missing_in (view_of site user world) name) world
            (each_weaker (IsMissing site user world name) (IsNew site user world.epochs (view_of site user world).epochs acl (new_seen (view_of site user world) name) world)
            (missing_in (view_of site user world) name)
            (λ q h. record {
              below = creatable_there site user world q h.may;
              shown = seen_alike site user world name parts.0 q h.named h.tree;
              counted = counted_there site user world q h.may;
            })
            missings.each);
      };
      fresh = each_mapped (IsFresh site user world (length name)) (row_of world.epochs acl) (missing_in (view_of site user world) name)
          (each_weaker (IsMissing site user world name) (λ q. IsFresh site user world (length name) (row_of world.epochs acl q))
          (missing_in (view_of site user world) name)
          (λ q h. record { below = creatable_there site user world q h.may; absent = h.absent; short = h.short })
          missings.each);
    }

pub creating : CreatingIsSeen
creating site user world name may = (creates site user world name may).creation
