-- What the view of a user becomes when the user's commands change the tree of mailboxes: SETACL and DELETEACL
-- (RFC 4314, sections 3.1 and 3.2), DELETE and CREATE (RFC 9051, sections 6.3.5 and 6.3.4).
use Rattle.std.specs.Prelude.{◌≡◌, ℕ, ◌+◌, Bool, true, false, not, ◌&&◌, ◌||◌, nat_lt, List, [], ◌∷◌, ◌++◌}
use Rattle.std.specs.Prelude.{Option, Some, None, Ok, option_map, if◌then◌else◌}
use Rattle.std.specs.FinMap as map
use Rattle.std.specs.List.{list_all}
use Rattle.imap_world.specs.Shown.{Shown, shown_to}
use Rattle.imap_names.specs.Name.{Name, is_inbox}
use Rattle.imap_names.specs.Order.{Names}
use Rattle.imap_world.specs.NameMapRows.{has_below}
use Rattle.imap_world.specs.RightsChange.{RightsChange}
use Rattle.imap_world.specs.Acl.{AclMap, is_full_for, with_entry, owner_acl}
use Rattle.imap_world.specs.Change.{applied}
use Rattle.imap_world.specs.Effective.{entry, effective}
use Rattle.imap_world.specs.Rights.{administer, delete_mailbox, has_any, visible_rights}
use Rattle.imap_world.specs.declared.site.Site.{Site}
use Rattle.imap_world.specs.Mailbox.{Mailbox, new_mailbox, no_messages}
use Rattle.imap_world.specs.Changing.{acl_with_rights}
use Rattle.imap_world.specs.NewMailbox.{NewMailbox}
use Rattle.imap_world.specs.Tree.{with_acl, without, created_rows, with_rows}
use Rattle.imap_world.specs.World.{World, epoch, max_validity}
use Rattle.imap_view.specs.Seen.{Seen, owner_of, rights_shown, seen_with, shows_messages, shows_room}
use Rattle.imap_view.specs.View.{View, view_of, acl_in, may_know_name_in, may_create, rights_in}

-- with this value under the name, or with none
abbrev pub put_option : {X : Type 0} → Names X → Name → Option X → Names X
put_option m name None = map.remove m name
put_option m name (Some value) = map.insert m name value

-- of the names in use and the validities only those of which the user may know still
abbrev pub narrowed : View → View
narrowed view = record view {
  taken = map.retain_keys view.taken (may_know_name_in view);
  epochs = map.retain_keys view.epochs (may_know_name_in view);
}

-- ---- SETACL and DELETEACL

-- the rights of an identifier's entry after a change
abbrev pub entry_after : AclMap → (identifier : List ℕ) → RightsChange → ℕ
entry_after acl identifier change = applied change (entry acl identifier)

abbrev pub has_room_for : (identifier : List ℕ) → RightsChange → Option AclMap → Bool
has_room_for identifier change None = false
has_room_for identifier change (Some acl) =
    not (is_full_for acl identifier (entry_after acl identifier change))

-- the user sees the list, and it has room for the entry
abbrev pub may_set_rights : View → Name → (identifier : List ℕ) → RightsChange → Bool
may_set_rights view name identifier change = has_room_for identifier change (acl_in view name)

-- what other rights show of messages of which all was shown
abbrev pub shown_still : (rights : ℕ) → Shown → Shown
shown_still rights messages = record {
  content = if shows_messages rights then messages.content else None;
  room = if shows_room rights then messages.room else None;
}

-- a mailbox of which all was seen, by other rights and another list
abbrev pub seen_still : (rights : ℕ) → AclMap → Seen → Option Seen
seen_still rights acl before =
    if has_any rights visible_rights
    then Some (record {
      rights = rights;
      acl = if has_any rights administer then Some acl else None;
      validity = if shows_messages rights then before.validity else None;
      messages = shown_still rights before.messages;
    })
    else None

-- what a holder of `a` sees of the mailbox with another list
abbrev pub seen_by_acl : View → Name → Seen → AclMap → Option Seen
seen_by_acl view name before acl =
    seen_still (effective view.user (owner_of view.site name) view.site.groups acl) acl before

abbrev pub seen_with_entry :
    View → Name → (identifier : List ℕ) → RightsChange → Seen → Option AclMap → Option Seen
seen_with_entry view name identifier change before None = None
seen_with_entry view name identifier change before (Some acl) =
    seen_by_acl view name before (with_entry acl identifier (entry_after acl identifier change))

abbrev pub seen_with_rights : View → Name → (identifier : List ℕ) → RightsChange → Option Seen → Option Seen
seen_with_rights view name identifier change None = None
seen_with_rights view name identifier change (Some before) =
    seen_with_entry view name identifier change before before.acl

-- the mailbox is seen by its new list, if it is seen at all
abbrev pub view_with_rights : View → Name → (identifier : List ℕ) → RightsChange → View
view_with_rights view name identifier change = narrowed (record view {
  seen = put_option view.seen name (seen_with_rights view name identifier change (map.get view.seen name));
})

-- The mailbox is there, and its list has room for the entry. The view after it is as said.
pub record IsRightsChange
    (site : Site) (user : List ℕ) (world : World) (name : Name) (identifier : List ℕ) (change : RightsChange)
    : Type 0 where
  pub mailbox : Mailbox
  pub acl : AclMap
  pub there : map.get world.mailboxes name ≡ Some mailbox
  pub changed : acl_with_rights mailbox.acl identifier change ≡ Ok acl
  pub seen : view_of site user (with_acl world name acl)
      ≡ view_with_rights (view_of site user world) name identifier change

-- Whether the rights may be set, and the view after it, are found from the view before alone.
abbrev pub SettingRightsIsSeen : Type 0
SettingRightsIsSeen =
    (site : Site) (user : List ℕ) (world : World) (name : Name) (identifier : List ℕ) (change : RightsChange)
    → may_set_rights (view_of site user world) name identifier change ≡ true
    → IsRightsChange site user world name identifier change

-- ---- DELETE

-- the user holds x on the mailbox, it is no INBOX, and no name below it is in use
abbrev pub may_delete : View → Name → Bool
may_delete view name =
    has_any (rights_in view name) delete_mailbox && (not (is_inbox name) && not (has_below name view.taken))

-- the mailbox is gone, and it shows no names below it any more
abbrev pub view_without : View → Name → View
view_without view name =
    narrowed (record view { seen = map.remove view.seen name; taken = map.remove view.taken name })

-- The mailbox is there, is no INBOX, and no mailbox of the world is below it. The view after it is as said.
pub record IsDeletion (site : Site) (user : List ℕ) (world : World) (name : Name) : Type 0 where
  pub there : map.contains_key world.mailboxes name ≡ true
  pub common : is_inbox name ≡ false
  pub lone : has_below name world.mailboxes ≡ false
  pub seen :
      view_of site user (without world name) ≡ view_without (view_of site user world) name

-- Whether the mailbox may be deleted, and the view after it, are found from the view before alone.
abbrev pub DeletingIsSeen : Type 0
DeletingIsSeen =
    (site : Site) (user : List ℕ) (world : World) (name : Name)
    → may_delete (view_of site user world) name ≡ true → IsDeletion site user world name

-- ---- CREATE

-- the user knows that the name is in use
abbrev pub is_known : View → Name → Bool
is_known view name = map.contains_key view.seen name || map.contains_key view.taken name

-- the superiors of a name below the nearest that the user knows of, outermost first, and last the name
abbrev pub missing_in : View → Name → List Name
missing_in view [] = []
missing_in view (root ∷ []) = []
missing_in view (deepest ∷ above ∷ more) =
    if is_known view (deepest ∷ above ∷ more) then []
    else missing_in view (above ∷ more) ++ (deepest ∷ above ∷ more) ∷ []

-- what an owner sees of a new mailbox that is the owner's alone
abbrev pub seen_by_owner : Site → (owner : List ℕ) → (validity : ℕ) → Option Seen
seen_by_owner site owner validity =
    seen_with site owner (effective owner owner site.groups (owner_acl owner))
    (new_mailbox validity (owner_acl owner))

-- a new mailbox with the list of one that the user sees so: it has no messages
abbrev pub seen_anew : Site → (user : List ℕ) → (validity : ℕ) → Seen → Seen
seen_anew site user validity above = record above {
  validity = if shows_messages above.rights then Some validity else None;
  messages = shown_to site.limits.max_messages user (rights_shown above.rights) no_messages;
}

abbrev pub seen_or : Option Seen → Option Seen → Option Seen
seen_or None deeper = deeper
seen_or (Some seen) deeper = Some seen

-- A new mailbox is seen by the list of the nearest superior that is seen, or as the user's own.
abbrev pub new_seen : View → Name → (validity : ℕ) → Option Seen
new_seen view [] validity = None
new_seen view (root ∷ []) validity = None
new_seen view (deepest ∷ root ∷ []) validity = seen_by_owner view.site view.user validity
new_seen view (deepest ∷ above ∷ next ∷ more) validity =
    seen_or (option_map (seen_anew view.site view.user validity) (map.get view.seen (above ∷ next ∷ more)))
    (new_seen view (above ∷ next ∷ more) validity)

-- under each of the names a UIDVALIDITY is left
abbrev pub validities_left : View → List Name → Bool
validities_left view names = list_all (λ name. nat_lt (epoch view.epochs name) max_validity) names

-- the nearest superior that the user knows of lets the user create the name, which isn't in use
abbrev pub may_make : View → Name → Bool
may_make view name =
    may_create view name
    && (not (map.contains_key view.taken name) && validities_left view (missing_in view name))

-- with a mailbox of this UIDVALIDITY under a name of which the user may know
abbrev pub view_with_mailbox : View → Option Seen → Name → (validity : ℕ) → View
view_with_mailbox view seen name validity = record view {
  seen = put_option view.seen name seen;
  taken = map.insert view.taken name tt;
  epochs = map.insert view.epochs name validity;
}

-- with a mailbox under each name, whose UIDVALIDITY is one above the greatest that was used there
abbrev pub view_with_mailboxes :
    View → (seen : (validity : ℕ) → Option Seen) → (epochs : Names ℕ) → List Name → View
view_with_mailboxes view seen epochs [] = view
view_with_mailboxes view seen epochs (name ∷ names) =
    let validity = epoch epochs name + 1 in
    view_with_mailboxes (view_with_mailbox view (seen validity) name validity) seen epochs names

-- No name gets unknown by it, so nothing has to be narrowed.
abbrev pub view_with : View → Name → View
view_with view name = view_with_mailboxes view (new_seen view name) view.epochs (missing_in view name)

-- The mailbox isn't there, and rows are made for it. The view after them is as said.
pub record IsCreation (site : Site) (user : List ℕ) (world : World) (name : Name) : Type 0 where
  pub rows : List NewMailbox
  pub absent : map.contains_key world.mailboxes name ≡ false
  pub made : created_rows world (owner_of site name) name ≡ Ok rows
  pub seen :
      view_of site user (with_rows world rows) ≡ view_with (view_of site user world) name

-- Whether the name may be made, and the view after it, are found from the view before alone.
abbrev pub CreatingIsSeen : Type 0
CreatingIsSeen =
    (site : Site) (user : List ℕ) (world : World) (name : Name)
    → may_make (view_of site user world) name ≡ true → IsCreation site user world name
