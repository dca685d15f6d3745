-- What a user may see of a world, and nothing else.
use Rattle.std.specs.Prelude.{ℕ, Bool, false, not, ◌&&◌, ◌||◌, List, [], ◌∷◌, Option, Some, None, bytes_eq}
use Rattle.std.specs.Prelude.{refl, if◌then◌else◌}
use Rattle.std.specs.FinMap as map
use Rattle.std.specs.Coded.{Coded, coded_ℕ, coded_list, coded×, code_by}
use Rattle.imap_names.specs.Name.{Name}
use Rattle.imap_names.specs.Order.{Names}
use Rattle.imap_world.specs.Acl.{AclMap}
use Rattle.imap_world.specs.Groups.{Members, members_code}
use Rattle.imap_world.specs.Rights.{has_any, create, no_rights, names_below_rights}
use Rattle.imap_user_map.specs.Finite.{keep}
use Rattle.imap_world.specs.declared.site.Site.{Site}
use Rattle.imap_world.specs.World.{World, NameSet, epoch, name_code, name_set_code, subscribed_by}
use Rattle.imap_view.specs.Seen.{Seen, seen_at, seen_code, owner_by_root}

-- the mailboxes that the user sees; of names of which the user may know, those in use, and the greatest
-- UIDVALIDITY ever used under each; the names that the user subscribed to
pub record View : Type 0 where
  pub site : Site
  pub user : List ℕ
  pub seen : Names Seen
  pub taken : NameSet
  pub epochs : Names ℕ
  pub subscribed : NameSet

abbrev pub site_code : Coded Site
site_code =
    code_by (List ℕ × ((ℕ × ℕ) × Members))
    (coded× (coded_list coded_ℕ) (coded× (coded× coded_ℕ coded_ℕ) members_code))
    (λ s. (s.administrator, ((s.limits.max_messages, s.limits.max_octets), s.groups)))
    (λ p. record {
      administrator = p.0;
      limits = record { max_messages = p.1.0.0; max_octets = p.1.0.1 };
      groups = p.1.1;
    })
    (λ _. refl)

abbrev pub view_code : Coded View
view_code =
    code_by (Site × (List ℕ × (Names Seen × (NameSet × (Names ℕ × NameSet)))))
    (coded× site_code (coded× (coded_list coded_ℕ)
    (coded× (map.code name_code seen_code)
    (coded× name_set_code (coded× (map.code name_code coded_ℕ) name_set_code)))))
    (λ v. (v.site, (v.user, (v.seen, (v.taken, (v.epochs, v.subscribed))))))
    (λ p. record {
      site = p.0;
      user = p.1.0;
      seen = p.1.1.0;
      taken = p.1.1.1.0;
      epochs = p.1.1.1.1.0;
      subscribed = p.1.1.1.1.1;
    })
    (λ _. refl)

-- ---- mailboxes that show the names below them, by the rights k, x and a; so do the roots of own trees

abbrev pub is_own_root : (site : Site) (user root : List ℕ) → Bool
is_own_root site user root = bytes_eq (owner_by_root site root) user

abbrev pub shows_names_with : Option Seen → Bool
shows_names_with None = false
shows_names_with (Some seen) = has_any seen.rights names_below_rights

abbrev pub shows_names_below : (site : Site) (user : List ℕ) → Names Seen → Name → Bool
shows_names_below site user seen [] = false
shows_names_below site user seen (root ∷ []) = is_own_root site user root
shows_names_below site user seen (deepest ∷ above ∷ more) =
    shows_names_with (map.get seen (deepest ∷ above ∷ more))

-- whether the user may know if the name is in use: it lies below one that shows the names below it
abbrev pub may_know_name : (site : Site) (user : List ℕ) → Names Seen → Name → Bool
may_know_name site user seen [] = false
may_know_name site user seen (deepest ∷ above) =
    shows_names_below site user seen above || may_know_name site user seen above

abbrev pub seen_in : (site : Site) (user : List ℕ) → World → Names Seen
seen_in site user world = keep (seen_at site user) world.mailboxes

abbrev pub if_true : {X : Type 0} → Bool → X → Option X
if_true b x = if b then Some x else None

-- the whole of what the user sees, if `seen` is what is seen of the mailboxes
abbrev pub view_by : (site : Site) (user : List ℕ) → Names Seen → World → View
view_by site user seen world = record {
  site = site;
  user = user;
  seen = seen;
  taken = keep (λ name mailbox. if_true (may_know_name site user seen name) tt) world.mailboxes;
  epochs = keep (λ name validity. if_true (may_know_name site user seen name) validity) world.epochs;
  subscribed = subscribed_by world user;
}

unfoldable pub view_of : (site : Site) (user : List ℕ) → World → View
view_of site user world = view_by site user (seen_in site user world) world

-- ---- what is found in a view

abbrev pub may_know_name_in : View → Name → Bool
may_know_name_in view name = may_know_name view.site view.user view.seen name

abbrev pub rights_of : Option Seen → ℕ
rights_of None = no_rights
rights_of (Some seen) = seen.rights

-- the user's rights on the mailbox of this name
abbrev pub rights_in : View → Name → ℕ
rights_in view name = rights_of (map.get view.seen name)

abbrev pub acl_of : Option Seen → Option AclMap
acl_of None = None
acl_of (Some seen) = seen.acl

-- its list, if the user holds a on it
abbrev pub acl_in : View → Name → Option AclMap
acl_in view name = acl_of (map.get view.seen name)

-- the greatest UIDVALIDITY that was used under a name, if the user may know of it
abbrev pub epoch_in : View → Name → Option ℕ
epoch_in view name = if_true (may_know_name_in view name) (epoch view.epochs name)

-- the right k on the superior, if it is seen; a superior that is only known to be there gives none
abbrev pub creatable_below : Option Seen → (taken deeper : Bool) → Bool
creatable_below (Some seen) taken deeper = has_any seen.rights create
creatable_below None taken deeper = not taken && deeper

-- whether the nearest superior that the user knows of lets the user create the name (RFC 4314, section 4,
-- of CREATE)
abbrev pub may_create : View → Name → Bool
may_create view [] = false
may_create view (root ∷ []) = false
may_create view (deepest ∷ root ∷ []) = is_own_root view.site view.user root
may_create view (deepest ∷ above ∷ next ∷ more) =
    creatable_below (map.get view.seen (above ∷ next ∷ more))
    (map.contains_key view.taken (above ∷ next ∷ more))
    (may_create view (above ∷ next ∷ more))
