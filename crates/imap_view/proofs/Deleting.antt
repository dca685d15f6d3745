-- The view after DELETE.
use Rattle.std.proofs.Common.{◌≡◌, inl, ℕ, Bool, true, false, cond, not, ◌||◌, List, [], ◌∷◌, ◌++◌, Option, Some, None, refl, sym, ap, ◌∙◌, true≢false}
use Rattle.std.specs.List.{filter_map, cons_option, list_any}
use Rattle.std.specs.Prelude.{◌==◌, option_map, option_and_then, is_some}
use Rattle.std.specs.Int.Bits.{and_zero_l}
use Rattle.std.specs.FinMap as fin
use Rattle.std.proofs.lemmas.Bool.{and_parts, not-true}
use Rattle.imap_names.specs.Name.{Name}
use Rattle.imap_names.specs.Order.{name_cmp, is_below}
use Rattle.imap_names.proofs.NameLaws.{is_name_at, get_without}
use Rattle.imap_names.proofs.OrderLaws.{IsAbove_from_below}
use Rattle.imap_world.specs.NameMapRows.{has_below}
use Rattle.imap_world.specs.Rights.{has_any, delete_mailbox}
use Rattle.imap_world.specs.declared.site.Site.{Site}
use Rattle.imap_world.specs.Mailbox.{Mailbox}
use Rattle.imap_user_map.specs.Finite.{kept_entry}
use Rattle.imap_world.specs.Tree.{without}
use Rattle.imap_world.specs.World.{World}
use Rattle.imap_user_map.proofs.KeptValues.{entries-keep}
use Rattle.imap_view.specs.Seen.{seen_at}
use Rattle.imap_view.specs.TreeAfter.{view_without, DeletingIsSeen}
use Rattle.imap_view.specs.View.{view_of, seen_in, if_true, shows_names_with, shows_names_below, may_know_name, rights_of, rights_in}
use Rattle.imap_view.proofs.Narrowing.{in_use, seen_is, shows_names, place_below, deeper_below, below_within, put_within, get_taken, get_epochs, view_is_narrowed, seen_changed}
use Rattle.imap_view.proofs.Views.{get_seen}

-- ---- a right is held on what is there and seen

none_held : (some : ℕ) → has_any (rights_of None) some ≡ true → ⊥
none_held some has = true≢false (sym has ∙ ap (λ m. not (m == 0)) (and_zero_l some))

-- a mailbox on which the user holds a right is there
pub held_is_there : (site : Site) (user : List ℕ) (world : World) (name : Name) (some : ℕ) → has_any (rights_in (view_of site user world) name) some ≡ true → fin.contains_key world.mailboxes name ≡ true
held_is_there site user world name some has = by (fin.get world.mailboxes name) refl
  where
    by : (o : Option Mailbox) → fin.get world.mailboxes name ≡ o → is_some o ≡ true
    by None is = absurd (none_held some (ap (λ o. has_any (rights_of o) some) (sym (get_seen site user world name ∙ ap (option_and_then (seen_at site user name)) is)) ∙ has))
    by (Some m) is = refl

-- what is seen makes a place by its rights alone, as a root is no mailbox
pub place_seen : (site : Site) (user : List ℕ) (world : World) (name : Name) → shows_names_with (fin.get (view_of site user world).seen name) ≡ true → shows_names_below site user (view_of site user world).seen name ≡ true
place_seen site user world [] e = absurd (true≢false (sym e ∙ ap shows_names_with (get_seen site user world [] ∙ none (fin.get world.mailboxes []))))
  where
    none : (o : Option Mailbox) → option_and_then (seen_at site user []) o ≡ None
    none None = refl
    none (Some m) = refl
place_seen site user world (root ∷ []) e = absurd (true≢false (sym e ∙ ap shows_names_with (get_seen site user world (root ∷ []) ∙ none (fin.get world.mailboxes (root ∷ [])))))
  where
    none : (o : Option Mailbox) → option_and_then (seen_at site user (root ∷ [])) o ≡ None
    none None = refl
    none (Some m) = refl
place_seen site user world (deepest ∷ above ∷ more) e = e

-- ---- no name is below

module _ (site : Site) (user : List ℕ) (world : World) (name : Name) where
  abbrev is_known_below : Name → Bool
  is_known_below = may_know_name site user (seen_in site user world)

  abbrev known_entry : Name → Mailbox → Option (Unit {0})
  known_entry q mailbox = if_true (is_known_below q) tt

  module _ (place : shows_names_below site user (seen_in site user world) name ≡ true) where
    pub below_between : (deepest : List ℕ) (between : List (List ℕ)) → is_known_below (deepest ∷ between ++ name) ≡ true
    below_between deepest [] = place_below site user (seen_in site user world) deepest name place
    below_between deepest (part ∷ between) = deeper_below site user (seen_in site user world) deepest (part ∷ between ++ name) (below_between part between)

    -- a holder of x knows all names below
    pub known_below : (q : Name) → is_below name q ≡ true → is_known_below q ≡ true
    known_below q below = let above = IsAbove_from_below name q below in ap is_known_below above.2 ∙ below_between above.0 above.1

    any_known : (es : List (Name × Mailbox)) → list_any (λ e. is_below name e.0) (filter_map (kept_entry known_entry) es) ≡ list_any (λ e. is_below name e.0) es
    any_known [] = refl
    any_known (e ∷ es) = by (is_known_below e.0) refl (is_below name e.0) refl (any_known es)
      where
        kept : List (Name × Unit {0})
        kept = filter_map (kept_entry known_entry) es

        by : (known : Bool) → is_known_below e.0 ≡ known → (below : Bool) → is_below name e.0 ≡ below → list_any (λ f. is_below name f.0) kept ≡ list_any (λ f. is_below name f.0) es
            → list_any (λ f. is_below name f.0) (cons_option (option_map (λ y. (e.0, y)) (if_true known tt)) kept) ≡ (below || list_any (λ f. is_below name f.0) es)
        by true is below at rest = λ i. at i || rest i
        by false is true at rest = absurd (true≢false (sym (known_below e.0 at) ∙ is))
        by false is false at rest = rest

    pub none_below : has_below name (view_of site user world).taken ≡ has_below name world.mailboxes
    unfolding view_of
    none_below = ap (list_any (λ e. is_below name e.0)) (entries-keep name_cmp known_entry world.mailboxes) ∙ any_known (fin.entries world.mailboxes)

-- ---- the view after it

module _ (site : Site) (user : List ℕ) (world : World) (name : Name) where
  module _ (place : shows_names_below site user (seen_in site user world) name ≡ true) where
    pub without_seen : view_of site user (without world name) ≡ view_without (view_of site user world) name
    unfolding view_of
    without_seen =
        view_is_narrowed site user (without world name) (fin.remove (seen_in site user world) name)
        (fin.remove (view_of site user world).taken name) (view_of site user world).epochs
        (seen_changed site user world (without world name) name None (get_without world.mailboxes name))
        (λ q h. ap in_use (get_without world.mailboxes name q) ∙ by q (within q h) (is_name_at q name) ∙ sym (get_without (view_of site user world).taken name q))
        (λ q h. sym (get_epochs site user (seen_in site user world) world q ∙ ap (λ b. cond b (fin.get world.epochs q) None) (within q h)))
      where
        within : (q : Name) → may_know_name site user (fin.remove (seen_in site user world) name) q ≡ true → may_know_name site user (seen_in site user world) q ≡ true
        within = below_within site user (fin.remove (seen_in site user world) name) (seen_in site user world) (put_within site user (seen_in site user world) name None (inl place))

        by : (q : Name) → may_know_name site user (seen_in site user world) q ≡ true → (b : Bool) → in_use (cond b None (fin.get world.mailboxes q)) ≡ cond b None (fin.get (view_of site user world).taken q)
        by q h true = refl
        by q h false = sym (get_taken site user (seen_in site user world) world q ∙ ap (λ b. cond b (in_use (fin.get world.mailboxes q)) None) h)

pub deleting : DeletingIsSeen
deleting site user world name may =
    let parts = and_parts _ _ may in
    let more = and_parts _ _ parts.1 in
    let place = ap (λ s. shows_names_below site user s name) (sym (seen_is site user world))
    ∙ place_seen site user world name (shows_names (fin.get (view_of site user world).seen name) delete_mailbox refl parts.0) in
    record {
      there = held_is_there site user world name delete_mailbox parts.0;
      common = not-true _ more.0;
      lone = sym (none_below site user world name place) ∙ not-true _ more.1;
      seen = without_seen site user world name place;
    }
