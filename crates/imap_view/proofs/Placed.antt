-- The view after mailboxes are made below places.
use Rattle.std.proofs.Common.{◌≡◌, ℕ, ◌+◌, Bool, true, false, cond, List, [], ◌∷◌, ◌++◌, map as map_list, Option, Some, None, refl, sym, ap, ◌∙◌}
use Rattle.std.specs.List.{AllByRecursion}
use Rattle.std.specs.Prelude.{option_map}
use Rattle.std.specs.FinMap as map
use Rattle.imap_names.specs.Name.{Name}
use Rattle.imap_names.specs.Order.{Names}
use Rattle.imap_names.proofs.NameLaws.{is_name_at, equal_names, same_names, get_put}
use Rattle.imap_world.specs.Acl.{AclMap}
use Rattle.imap_world.specs.declared.site.Site.{Site}
use Rattle.imap_world.specs.Mailbox.{Mailbox, new_mailbox}
use Rattle.imap_world.specs.Effects.{with_row}
use Rattle.imap_user_map.specs.Finite.{keep}
use Rattle.imap_world.specs.NewMailbox.{NewMailbox, mailbox_in}
use Rattle.imap_world.specs.Tree.{with_rows}
use Rattle.imap_world.specs.World.{World, epoch}
use Rattle.imap_view.specs.Seen.{Seen, seen_at}
use Rattle.imap_view.specs.TreeAfter.{put_option, view_with_mailbox, view_with_mailboxes}
use Rattle.imap_view.specs.View.{view_of, view_by, seen_in, if_true, may_know_name}
use Rattle.imap_view.proofs.Narrowing.{get_kept, below_same, seen_changed}

-- ---- lists of which each item is such

module _ {X : Type 0} where
  pub each_weaker : (P Q : X → Type 0) (xs : List X) → ((x : X) → P x → Q x) → AllByRecursion P xs → AllByRecursion Q xs
  each_weaker P Q [] f h = tt
  each_weaker P Q (x ∷ xs) f h = (f x h.0, each_weaker P Q xs f h.1)

  pub each_push : (P : X → Type 0) (xs : List X) (x : X) → AllByRecursion P xs → P x → AllByRecursion P (xs ++ x ∷ [])
  each_push P [] x h p = (p, tt)
  each_push P (y ∷ xs) x h p = (h.0, each_push P xs x h.1 p)

module _ {X Y : Type 0} where
  pub each_mapped : (P : Y → Type 0) (f : X → Y) (xs : List X) → AllByRecursion (λ x. P (f x)) xs → AllByRecursion P (map_list f xs)
  each_mapped P f [] h = tt
  each_mapped P f (x ∷ xs) h = (h.0, each_mapped P f xs h.1)

-- ---- one mailbox

-- a value is put under a key that is kept; which keys are kept stays
kept_with : {X Y : Type 0} (f : X → Y) (m : Names X) (k : Name) (x : X) (after before : Name → Bool) → ((q : Name) → after q ≡ before q) → before k ≡ true
    → keep (λ name y. if_true (after name) (f y)) (map.insert m k x) ≡ map.insert (keep (λ name y. if_true (before name) (f y)) m) k (f x)
kept_with f m k x after before same holds =
    same_names _ _ (λ q. get_kept after f (map.insert m k x) q
    ∙ (λ i. cond (same q i) (option_map f (get_put m k x q i)) None)
    ∙ by q (is_name_at q k) refl
    ∙ sym (get_put (keep (λ name y. if_true (before name) (f y)) m) k (f x) q ∙ ap (cond (is_name_at q k) (Some (f x))) (get_kept before f m q)))
  where
    by : (q : Name) (b : Bool) → is_name_at q k ≡ b → cond (before q) (option_map f (cond b (Some x) (map.get m q))) None ≡ cond b (Some (f x)) (cond (before q) (option_map f (map.get m q)) None)
    by q true at = ap (λ b. cond b (Some (f x)) None) (ap before (equal_names q k at) ∙ holds)
    by q false at = refl

module _ (site : Site) (user : List ℕ) (world : World) (row : NewMailbox) where
  module _ (below : may_know_name site user (seen_in site user world) row.name ≡ true) where
    abbrev new : Option Seen
    new = seen_at site user row.name (mailbox_in row)

    seen_new : seen_in site user (with_row world row) ≡ put_option (seen_in site user world) row.name new
    seen_new = seen_changed site user world (with_row world row) row.name (Some (mailbox_in row)) (get_put world.mailboxes row.name (mailbox_in row))

    abbrev after : Name → Bool
    after = may_know_name site user (put_option (seen_in site user world) row.name new)

    abbrev before : Name → Bool
    before = may_know_name site user (seen_in site user world)

    same : (q : Name) → after q ≡ before q
    same = below_same site user (seen_in site user world) row.name new below

    -- the same names lie below places
    pub places_same : (q : Name) → may_know_name site user (seen_in site user (with_row world row)) q ≡ before q
    places_same q = ap (λ s. may_know_name site user s q) seen_new ∙ same q

    takens : (view_by site user (put_option (seen_in site user world) row.name new) (with_row world row)).taken ≡ map.insert (view_by site user (seen_in site user world) world).taken row.name tt
    takens = kept_with (λ (m : Mailbox). tt) world.mailboxes row.name (mailbox_in row) after before same below

    all_epochs : (view_by site user (put_option (seen_in site user world) row.name new) (with_row world row)).epochs ≡ map.insert (view_by site user (seen_in site user world) world).epochs row.name row.validity
    all_epochs = kept_with (λ (n : ℕ). n) world.epochs row.name row.validity after before same below

    pub view_with_row : view_of site user (with_row world row) ≡ view_with_mailbox (view_of site user world) new row.name row.validity
    unfolding view_of
    view_with_row =
        ap (λ s. view_by site user s (with_row world row)) seen_new
        ∙ λ i. record (view_by site user (put_option (seen_in site user world) row.name new) (with_row world row)) { taken = takens i; epochs = all_epochs i }

-- ---- several

module _ (site : Site) (user : List ℕ) where
  abbrev pub IsBelow : World → NewMailbox → Type 0
  IsBelow world row = may_know_name site user (seen_in site user world) row.name ≡ true

  -- below places no place comes and none goes
  pub rows_places_same : (rows : List NewMailbox) (world : World) → AllByRecursion (IsBelow world) rows → (q : Name)
      → may_know_name site user (seen_in site user (with_rows world rows)) q ≡ may_know_name site user (seen_in site user world) q
  rows_places_same [] world each q = refl
  rows_places_same (row ∷ rows) world each q =
      rows_places_same rows (with_row world row)
      (each_weaker (IsBelow world) (IsBelow (with_row world row)) rows (λ r h. places_same site user world row each.0 r.name ∙ h) each.1) q
      ∙ places_same site user world row each.0 q

-- under other names all stays
pub rows_elsewhere : (rows : List NewMailbox) (world : World) (q : Name) → AllByRecursion (λ row. is_name_at q row.name ≡ false) rows → map.get (with_rows world rows).mailboxes q ≡ map.get world.mailboxes q
rows_elsewhere [] world q each = refl
rows_elsewhere (row ∷ rows) world q each =
    rows_elsewhere rows (with_row world row) q each.1
    ∙ get_put world.mailboxes row.name (mailbox_in row) q
    ∙ ap (λ b. cond b (Some (mailbox_in row)) (map.get world.mailboxes q)) each.0

-- ---- several, that are seen alike

-- the mailbox that is made under a name
abbrev pub row_of : Names ℕ → AclMap → Name → NewMailbox
row_of epochs acl name = record { name = name; validity = epoch epochs name + 1; acl = acl }

module _ (site : Site) (user : List ℕ) (epochs known : Names ℕ) (acl : AclMap) (seen : ℕ → Option Seen) where
  -- below a place, with a list by which it is seen so, and the user knows the validities
  pub record IsNew (world : World) (name : Name) : Type 0 where
    pub below : may_know_name site user (seen_in site user world) name ≡ true
    pub shown : (validity : ℕ) → seen_at site user name (new_mailbox validity acl) ≡ seen validity
    pub counted : epoch epochs name ≡ epoch known name

  pub rows_seen : (names : List Name) (world : World) → AllByRecursion (IsNew world) names
      → view_of site user (with_rows world (map_list (row_of epochs acl) names)) ≡ view_with_mailboxes (view_of site user world) seen known names
  rows_seen [] world each = refl
  rows_seen (name ∷ names) world each =
      let row : NewMailbox = row_of epochs acl name in
      let first = each.0 in
      rows_seen names (with_row world row)
      (each_weaker (IsNew world) (IsNew (with_row world row)) names
      (λ q new. record { below = places_same site user world row first.below q ∙ new.below; shown = new.shown; counted = new.counted })
      each.1)
      ∙ ap (λ v. view_with_mailboxes v seen known names)
      (view_with_row site user world row first.below
      ∙ (λ i. view_with_mailbox (view_of site user world) (first.shown (epoch epochs name + 1) i) name (epoch epochs name + 1))
      ∙ (λ i. view_with_mailbox (view_of site user world) (seen (first.counted i + 1)) name (first.counted i + 1)))
