-- What is found in a view.
use Rattle.std.proofs.Common.{◌≡◌, ℕ, Bool, true, false, cond, ◌&&◌, ◌||◌, ◌<◌, List, [], ◌∷◌, Option, Some, None, length, refl, sym, ap, ◌∙◌, arith}
use Rattle.std.specs.Prelude.{is_some, option_and_then, unwrap_or}
use Rattle.std.specs.FinMap as map
use Rattle.imap_names.specs.Name.{Name, root_of, superior}
use Rattle.imap_names.specs.Order.{Names, name_cmp}
use Rattle.imap_names.specs.Valid.{IsName}
use Rattle.imap_names.proofs.OrderLaws.{name_antisymmetric}
use Rattle.imap_world.specs.Rights.{has_any, visible_rights}
use Rattle.imap_world.specs.Effective.{effective}
use Rattle.imap_world.specs.declared.site.Site.{Site}
use Rattle.imap_world.specs.Mailbox.{Mailbox}
use Rattle.imap_world.specs.World.{World, epoch, subscribed_by}
use Rattle.imap_user_map.proofs.KeptValues.{get-keep}
use Rattle.imap_view.specs.Seen.{Seen, is_root, owner_of, seen_at, seen_by_rights, seen_with}
use Rattle.imap_view.specs.View.{View, view_of, seen_in, is_own_root, shows_names_below, may_know_name, may_know_name_in, if_true, epoch_in, creatable_below, may_create}

-- the name of a mailbox has more than the root of its tree
pub named : (name : Name) → IsName name → is_root name ≡ false
named [] valid = absurd (omega (arith, ap length valid.parted))
named (root ∷ []) valid = absurd (omega (arith, ap length valid.parted))
named (deepest ∷ above ∷ more) valid = refl

module _ (site : Site) (user : List ℕ) (world : World) where
  pub site_of : (view_of site user world).site ≡ site
  unfolding view_of
  site_of = refl

  pub user_of : (view_of site user world).user ≡ user
  unfolding view_of
  user_of = refl

  pub subscribed_of : (view_of site user world).subscribed ≡ subscribed_by world user
  unfolding view_of
  subscribed_of = refl

  pub get_seen : (q : Name) → map.get (view_of site user world).seen q ≡ option_and_then (seen_at site user q) (map.get world.mailboxes q)
  unfolding view_of
  get_seen q = get-keep name_cmp (seen_at site user) name_antisymmetric world.mailboxes q

  abbrev is_known : Name → Bool
  is_known = may_know_name site user (view_of site user world).seen

  when : {X Y : Type 0} (b : Bool) (y : X → Y) (o : Option X) → is_some (option_and_then (λ x. if_true b (y x)) o) ≡ (is_some o && b)
  when true y None = refl
  when true y (Some x) = refl
  when false y None = refl
  when false y (Some x) = refl

  -- a name is taken if it is there and the user may know so
  pub contains_taken : (q : Name) → map.contains_key (view_of site user world).taken q ≡ (map.contains_key world.mailboxes q && is_known q)
  unfolding view_of
  contains_taken q =
      ap is_some (get-keep name_cmp (λ name mailbox. if_true (may_know_name site user (seen_in site user world) name) tt) name_antisymmetric world.mailboxes q)
      ∙ when (may_know_name site user (seen_in site user world) q) (λ m. tt) (map.get world.mailboxes q)

  epoch_when : (b : Bool) (o : Option ℕ) → if_true b (unwrap_or (option_and_then (λ n. if_true b n) o) 0) ≡ if_true b (unwrap_or o 0)
  epoch_when true None = refl
  epoch_when true (Some n) = refl
  epoch_when false o = refl

  -- and its validities are those of the world
  pub epoch_known : (q : Name) → epoch_in (view_of site user world) q ≡ if_true (is_known q) (epoch world.epochs q)
  unfolding view_of
  epoch_known q =
      ap (λ o. if_true (is_known q) (unwrap_or o 0)) (get-keep name_cmp (λ name validity. if_true (may_know_name site user (seen_in site user world) name) validity) name_antisymmetric world.epochs q)
      ∙ epoch_when (is_known q) (map.get world.epochs q)

  known_in : (q : Name) → may_know_name_in (view_of site user world) q ≡ is_known q
  known_in q = λ i. may_know_name (site_of i) (user_of i) (view_of site user world).seen q

  module _ (view : View) (is : view_of site user world ≡ view) (q : Name) where
    known_there : is_known q ≡ may_know_name_in view q
    known_there = sym (known_in q) ∙ ap (λ v. may_know_name_in v q) is

    pub taken_at : map.contains_key view.taken q ≡ (map.contains_key world.mailboxes q && may_know_name_in view q)
    taken_at = ap (λ (v : View). map.contains_key v.taken q) (sym is) ∙ contains_taken q ∙ ap (λ b. map.contains_key world.mailboxes q && b) known_there

    pub epoch_at : epoch_in view q ≡ if_true (may_know_name_in view q) (epoch world.epochs q)
    epoch_at = ap (λ v. epoch_in v q) (sym is) ∙ epoch_known q ∙ ap (λ b. if_true b (epoch world.epochs q)) known_there

  -- ---- one mailbox

  pub absent_is_unseen : (q : Name) → map.get world.mailboxes q ≡ None → map.get (view_of site user world).seen q ≡ None
  absent_is_unseen q absent = get_seen q ∙ ap (option_and_then (seen_at site user q)) absent

  module _ (view : View) (is : view_of site user world ≡ view) (q : Name) (mailbox : Mailbox) where
    site_there : site ≡ view.site
    site_there = sym site_of ∙ ap (λ (v : View). v.site) is

    user_there : user ≡ view.user
    user_there = sym user_of ∙ ap (λ (v : View). v.user) is

    pub seen_there : map.get world.mailboxes q ≡ Some mailbox → seen_at view.site view.user q mailbox ≡ map.get view.seen q
    seen_there there =
        (λ i. seen_at (sym site_there i) (sym user_there i) q mailbox) ∙ sym (get_seen q ∙ ap (option_and_then (seen_at site user q)) there)
        ∙ ap (λ (v : View). map.get v.seen q) is

    -- with the rights that the user holds
    module _ (named : is_root q ≡ false) (rights : ℕ) (held : rights ≡ effective user (owner_of site q) site.groups mailbox.acl) where
      by_rights : seen_at view.site view.user q mailbox ≡ seen_with site user rights mailbox
      by_rights =
          (λ i. seen_at (sym site_there i) (sym user_there i) q mailbox)
          ∙ ap (λ b. cond b None (seen_with site user (effective user (owner_of site q) site.groups mailbox.acl) mailbox)) named ∙ ap (λ r. seen_with site user r mailbox) (sym held)

      pub visible_is_seen : has_any rights visible_rights ≡ true → seen_at view.site view.user q mailbox ≡ Some (seen_by_rights site user rights mailbox)
      visible_is_seen visible = by_rights ∙ ap (λ b. cond b (Some (seen_by_rights site user rights mailbox)) None) visible

      pub hidden_is_unseen : has_any rights visible_rights ≡ false → seen_at view.site view.user q mailbox ≡ None
      hidden_is_unseen hidden = by_rights ∙ ap (λ b. cond b (Some (seen_by_rights site user rights mailbox)) None) hidden

-- ---- superiors

module _ (site : Site) (user : List ℕ) (seen : Names Seen) where
  -- below a superior that is a place, or below a place itself
  pub below_superior : (q above : Name) → superior q ≡ Some above → may_know_name site user seen q ≡ (shows_names_below site user seen above || may_know_name site user seen above)
  below_superior [] above is = absurd (cc is)
  below_superior (root ∷ []) above is = absurd (cc is)
  below_superior (outermost ∷ root ∷ []) above is = absurd (cc is)
  below_superior (deepest ∷ first ∷ next ∷ more) above is = ap (λ o. superior_place (unwrap_or o above)) is
    where
      superior_place : Name → Bool
      superior_place name = shows_names_below site user seen name || may_know_name site user seen name

  -- right below a root, if that is the user's own
  pub below_root : (q : Name) → is_root q ≡ false → superior q ≡ None → may_know_name site user seen q ≡ is_own_root site user (root_of q)
  below_root [] named is = absurd (cc named)
  below_root (root ∷ []) named is = absurd (cc named)
  below_root (outermost ∷ root ∷ []) named is = or_false (is_own_root site user root)
    where
      or_false : (b : Bool) → (b || (false || false)) ≡ b
      or_false true = refl
      or_false false = refl
  below_root (deepest ∷ first ∷ next ∷ more) named is = absurd (cc is)

pub superior_is_named : (q above : Name) → superior q ≡ Some above → is_root above ≡ false
superior_is_named [] above is = absurd (cc is)
superior_is_named (root ∷ []) above is = absurd (cc is)
superior_is_named (outermost ∷ root ∷ []) above is = absurd (cc is)
superior_is_named (deepest ∷ first ∷ next ∷ more) above is = ap (λ o. is_root (unwrap_or o above)) (sym is)

pub superior_is_shorter : (q above : Name) → superior q ≡ Some above → length above < length q
superior_is_shorter [] above is = absurd (cc is)
superior_is_shorter (root ∷ []) above is = absurd (cc is)
superior_is_shorter (outermost ∷ root ∷ []) above is = absurd (cc is)
superior_is_shorter (deepest ∷ first ∷ next ∷ more) above is = omega (arith, ap (λ (o : Option Name). length (unwrap_or o above)) is)

-- ---- whether a user may create

pub create_below : (view : View) (q above : Name) → superior q ≡ Some above → may_create view q ≡ creatable_below (map.get view.seen above) (map.contains_key view.taken above) (may_create view above)
create_below view [] above is = absurd (cc is)
create_below view (root ∷ []) above is = absurd (cc is)
create_below view (outermost ∷ root ∷ []) above is = absurd (cc is)
create_below view (deepest ∷ first ∷ next ∷ more) above is = ap (λ (o : Option Name). creatable (unwrap_or o above)) is
  where
    creatable : Name → Bool
    creatable name = creatable_below (map.get view.seen name) (map.contains_key view.taken name) (may_create view name)

pub create_at_root : (view : View) (q : Name) → is_root q ≡ false → superior q ≡ None → may_create view q ≡ is_own_root view.site view.user (root_of q)
create_at_root view [] named is = absurd (cc named)
create_at_root view (root ∷ []) named is = absurd (cc named)
create_at_root view (outermost ∷ root ∷ []) named is = refl
create_at_root view (deepest ∷ first ∷ next ∷ more) named is = absurd (cc is)
