-- What the view of a user becomes when the world changes.
use Rattle.std.specs.Prelude.{◌≡◌, ◌≢◌, ◌⊎◌, ℕ, true, false, not, List, [], ◌∷◌, None, Ok}
use Rattle.std.specs.FinMap as map
use Rattle.imap_names.specs.Name.{Name}
use Rattle.imap_names.specs.Order.{is_within}
use Rattle.imap_names.specs.UserName.{is_user_name}
use Rattle.imap_world.specs.declared.site.Site.{Site}
use Rattle.imap_world.specs.declared.change.Write.{Write}
use Rattle.imap_world.specs.declared.effect.Effect.{Effect}
use Rattle.imap_world.specs.declared.effect.Effect.TheVariants as effect
use Rattle.imap_world.specs.Effects.{after_all, writes_for}
use Rattle.imap_world.specs.Kept.{AreKept}
use Rattle.imap_world.specs.World.{World, subscribed_by}
use Rattle.imap_view.specs.MessagesAfter.{MayAskOfBoth, view_with_batches}
use Rattle.imap_view.specs.RenameAfter.{may_rename, view_renamed}
use Rattle.imap_view.specs.Seen.{owner_of}
use Rattle.imap_view.specs.TreeAfter.{may_delete, may_make, may_set_rights, view_with, view_with_rights}
use Rattle.imap_view.specs.TreeAfter.{view_without}
use Rattle.imap_view.specs.View.{View, view_of, may_know_name_in}

-- the user of the view may ask for it, from a session
abbrev pub MayAsk : View → Effect → Type 0
MayAsk view (effect.CreateInbox owner) = ⊥
MayAsk view (effect.Create owner name) =
    (owner ≡ owner_of view.site name) × (may_make view name ≡ true)
MayAsk view (effect.Delete name) = may_delete view name ≡ true
MayAsk view (effect.Rename owner old new) =
    (owner ≡ owner_of view.site new) × (may_rename view old new ≡ true)
MayAsk view (effect.SetRights name identifier change) = may_set_rights view name identifier change ≡ true
MayAsk view (effect.Messages part other) = MayAskOfBoth view part other
MayAsk view (effect.Subscribe user name) = user ≡ view.user
MayAsk view (effect.Unsubscribe user name) = user ≡ view.user

-- the view once the user's own effect is made
abbrev pub view_after : Effect → View → View
view_after (effect.CreateInbox owner) view = view
view_after (effect.Create owner name) view = view_with view name
view_after (effect.Delete name) view = view_without view name
view_after (effect.Rename owner old new) view = view_renamed view old new
view_after (effect.SetRights name identifier change) view = view_with_rights view name identifier change
view_after (effect.Messages part other) view = view_with_batches view part other
view_after (effect.Subscribe user name) view = record view { subscribed = map.insert view.subscribed name tt }
view_after (effect.Unsubscribe user name) view = record view { subscribed = map.remove view.subscribed name }

-- The view after an effect that the user may ask for is found from the view before alone.
abbrev pub OwnEffectsAreSeen : Type 0
OwnEffectsAreSeen = (site : Site) (user : List ℕ) (world : World) (asked : Effect) →
    let view = view_of site user world in
    AreKept world.mailboxes → MayAsk view asked
    → view_of site user (after_all (asked ∷ []) world) ≡ view_after asked view

-- Values are found that it writes.
pub record IsMade (asked : Effect) (world : World) : Type 0 where
  pub writes : List Write
  pub made : writes_for asked world ≡ Ok writes

-- An effect that the user may ask for can be made.
abbrev pub OwnEffectsAreMade : Type 0
OwnEffectsAreMade = (site : Site) (user : List ℕ) (world : World) (asked : Effect)
    → AreKept world.mailboxes → MayAsk (view_of site user world) asked → IsMade asked world

-- another user's subscriptions are not in the view
abbrev pub OthersSubscriptionsAreHidden : Type 0
OthersSubscriptionsAreHidden =
    (site : Site) (user other : List ℕ) (world : World) (name : Name) → other ≢ user →
    let view = view_of site user world in
    (view_of site user (after_all (effect.Subscribe other name ∷ []) world) ≡ view)
    × (view_of site user (after_all (effect.Unsubscribe other name ∷ []) world) ≡ view)

-- the INBOX that is made for another user is not in the view, nor whether that user had one
abbrev pub OthersInboxesAreHidden : Type 0
OthersInboxesAreHidden = (site : Site) (user other : List ℕ) (world : World) →
    is_user_name other ≡ true → other ≢ user →
    view_of site user (after_all (effect.CreateInbox other ∷ []) world)
    ≡ view_of site user world

-- In neither world the user sees a mailbox of this name. Whether the name is in use the user may not know, or it
-- is so in both or in neither.
pub record IsHidden (site : Site) (user : List ℕ) (one other : World) (name : Name) : Type 0 where
  pub unseen : map.get (view_of site user one).seen name ≡ None
  pub unseen_other : map.get (view_of site user other).seen name ≡ None
  pub use_hidden : (may_know_name_in (view_of site user one) name ≡ false)
      ⊎ (map.contains_key one.mailboxes name ≡ map.contains_key other.mailboxes name)

-- The worlds differ for the user in hidden mailboxes alone, and in validities that were used under names of
-- which the user may not know.
pub record DifferInHidden (site : Site) (user : List ℕ) (one other : World) : Type 0 where
  pub mailboxes : (name : Name)
      → (map.get one.mailboxes name ≡ map.get other.mailboxes name)
      ⊎ IsHidden site user one other name
  pub epochs : (name : Name)
      → (map.get one.epochs name ≡ map.get other.epochs name)
      ⊎ (may_know_name_in (view_of site user one) name ≡ false)
  pub subscribed : subscribed_by one user ≡ subscribed_by other user

-- Hidden mailboxes can change, come and go, and leave their used validities, and the view stays.
abbrev pub HiddenIsAbsent : Type 0
HiddenIsAbsent = (site : Site) (user : List ℕ) (one other : World)
    → DifferInHidden site user one other
    → view_of site user one ≡ view_of site user other

-- without the mailbox of a name and all below it
abbrev pub without_tree : World → (top : Name) → World
without_tree world top =
    record world { mailboxes = map.retain_keys world.mailboxes (λ name. not (is_within top name)) }

-- the user sees no mailbox of the name or below it, and may not know that their names are in use
abbrev pub IsHiddenTree : (site : Site) (user : List ℕ) → World → (top : Name) → Type 0
IsHiddenTree site user world top = (name : Name)
    → is_within top name ≡ true → map.contains_key world.mailboxes name ≡ true
    → (map.get (view_of site user world).seen name ≡ None)
    × (may_know_name_in (view_of site user world) name ≡ false)

-- A mailbox and all below it can go of which the user sees none and may not know the names, and the view stays: a
-- hidden mailbox is as one that isn't there.
abbrev pub HiddenSubtreesAreAbsent : Type 0
HiddenSubtreesAreAbsent = (site : Site) (user : List ℕ) (world : World) (top : Name)
    → IsHiddenTree site user world top → view_of site user world ≡ view_of site user (without_tree world top)
