-- What is asked of the mailboxes, the values that are written for it, and what these make of a world.
use Rattle.std.specs.Prelude.{ℕ, List, [], ◌∷◌, ◌++◌, not, Option, Some, None, Result, Ok, Err}
use Rattle.std.specs.Prelude.{if◌then◌else◌}
use Rattle.std.specs.FinMap as map
use Rattle.imap_name_map.specs.Kept as kept
use Rattle.imap_name_map.specs.Rows.{has_below, has_within}
use Rattle.imap_names.specs.Name.{Name, is_inbox}
use Rattle.imap_rights.specs.Acl.{AclMap, owner_acl}
use Rattle.imap_rights.specs.declared.change.RightsChange.{RightsChange}
use Rattle.imap_user_map.specs.Rows.{Users}
use Rattle.imap_world.specs.declared.change.Write.{Write}
use Rattle.imap_world.specs.declared.change.Write.TheVariants as write
use Rattle.imap_world.specs.declared.effect.Effect.{Effect}
use Rattle.imap_world.specs.declared.effect.Effect.TheVariants as effect
use Rattle.imap_world.specs.declared.error.WorldError.{WorldError}
use Rattle.imap_world.specs.declared.error.WorldError.TheVariants.{NoSuch, Taken, Below, Cannot}
use Rattle.imap_world.specs.Mailbox.{Mailbox}
use Rattle.imap_world.specs.Messages.{messages_written, with_messages}
use Rattle.imap_world.specs.Moving.{arrivals, can_move, superior_rows, with_moved}
use Rattle.imap_world.specs.NewMailbox.{NewMailbox}
use Rattle.imap_world.specs.Tree.{acl_with_rights, with_acl, without, created_rows}
use Rattle.imap_world.specs.World.{World, NameSet, subscribed_by, inbox}
pub use Rattle.imap_world.specs.Tree.{with_row, new_row}

-- ---- what is written

-- the set, if it has a name
abbrev pub if_filled : NameSet → Option NameSet
if_filled names = kept.if_filled names

abbrev pub with_option : {X : Type 0} → Users X → List ℕ → Option X → Users X
with_option m user None = map.remove m user
with_option m user (Some value) = map.insert m user value

-- these are now the names that the user subscribed to
abbrev pub with_subscribed : World → List ℕ → NameSet → World
with_subscribed world user names =
    record world { subscriptions = with_option world.subscriptions user (if_filled names) }

abbrev pub after_write : Write → World → World
after_write (write.Put row) world = with_row world row
after_write (write.SetAcl name acl) world = with_acl world name acl
after_write (write.Remove name) world = without world name
after_write (write.Move old new arrivals) world = with_moved world old new arrivals
after_write (write.Messages part other) world = with_messages world part other
after_write (write.Subscribe user name) world =
    with_subscribed world user (map.insert (subscribed_by world user) name tt)
after_write (write.Unsubscribe user name) world =
    with_subscribed world user (map.remove (subscribed_by world user) name)

abbrev pub after_writes : List Write → World → World
after_writes [] world = world
after_writes (write ∷ writes) world = after_writes writes (after_write write world)

-- ---- what is asked

abbrev pub put_of : Result NewMailbox WorldError → Result (List Write) WorldError
put_of (Err error) = Err error
put_of (Ok row) = Ok (write.Put row ∷ [])

abbrev pub puts : List NewMailbox → List Write
puts [] = []
puts (row ∷ rows) = write.Put row ∷ puts rows

abbrev pub puts_of : Result (List NewMailbox) WorldError → Result (List Write) WorldError
puts_of (Err error) = Err error
puts_of (Ok rows) = Ok (puts rows)

-- a mailbox goes only if it is no INBOX and none is below it (RFC 9051, section 6.3.5)
abbrev pub removal : World → Name → Result (List Write) WorldError
removal world name =
    if is_inbox name then Err Cannot
    else if has_below name world.mailboxes then Err Below else Ok (write.Remove name ∷ [])

-- first the superiors are made
abbrev pub move_after : (old new : Name)
    → Result (List Write) WorldError → Result (List (Name × ℕ)) WorldError → Result (List Write) WorldError
move_after old new (Err error) arrivals = Err error
move_after old new (Ok made) (Err error) = Err error
move_after old new (Ok made) (Ok arrivals) = Ok (made ++ write.Move old new arrivals ∷ [])

-- a mailbox moves, with all below it, only to a name at and below which nothing is (RFC 9051, section 6.3.6)
abbrev pub renaming : World → (owner : List ℕ) → (old new : Name) → Result (List Write) WorldError
renaming world owner old new =
    if not (can_move old new) then Err Cannot
    else if has_within new world.mailboxes then Err Taken
    else move_after old new (puts_of (superior_rows world owner new)) (arrivals world old new)

abbrev pub list_set : Name → Result AclMap WorldError → Result (List Write) WorldError
list_set name (Err error) = Err error
list_set name (Ok acl) = Ok (write.SetAcl name acl ∷ [])

-- the list of the mailbox, if it is there, with an identifier's rights changed
abbrev pub list_changed : Name → List ℕ → RightsChange → Option Mailbox → Result (List Write) WorldError
list_changed name identifier change None = Err NoSuch
list_changed name identifier change (Some mailbox) =
    list_set name (acl_with_rights mailbox.acl identifier change)

-- what is written for one effect by the world as it is; an INBOX is its owner's alone
abbrev pub writes_for : Effect → World → Result (List Write) WorldError
writes_for (effect.CreateInbox user) world =
    if map.contains_key world.mailboxes (inbox user) then Err Taken
    else put_of (new_row world.epochs (inbox user) (owner_acl user))
writes_for (effect.Create owner name) world =
    if map.contains_key world.mailboxes name then Err Taken else puts_of (created_rows world owner name)
writes_for (effect.Delete name) world =
    if map.contains_key world.mailboxes name then removal world name else Err NoSuch
writes_for (effect.Rename owner old new) world =
    if map.contains_key world.mailboxes old then renaming world owner old new else Err NoSuch
writes_for (effect.SetRights name identifier change) world =
    list_changed name identifier change (map.get world.mailboxes name)
writes_for (effect.Messages part other) world = messages_written world.mailboxes part other
writes_for (effect.Subscribe user name) world = Ok (write.Subscribe user name ∷ [])
writes_for (effect.Unsubscribe user name) world = Ok (write.Unsubscribe user name ∷ [])

abbrev pub writes_then :
    Result (List Write) WorldError → Result (List Write) WorldError → Result (List Write) WorldError
writes_then (Err error) rest = Err error
writes_then (Ok writes) (Err error) = Err error
writes_then (Ok writes) (Ok more) = Ok (writes ++ more)

-- of all, in order, each by the world as it is; or the first fault
abbrev pub writes_of : List Effect → World → Result (List Write) WorldError
writes_of [] world = Ok []
writes_of (effect ∷ effects) world = writes_then (writes_for effect world) (writes_of effects world)

abbrev pub after_result : Result (List Write) WorldError → World → World
after_result (Err error) world = world
after_result (Ok writes) world = after_writes writes world

abbrev pub after_all : List Effect → World → World
after_all effects world = after_result (writes_of effects world) world

-- after one list after another, each by the world that those before it left
abbrev pub after_steps : List (List Effect) → World → World
after_steps [] world = world
after_steps (effects ∷ steps) world = after_steps steps (after_all effects world)
