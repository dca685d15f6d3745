-- What commands make of the mailboxes: CREATE and DELETE (RFC 9051, sections 6.3.4 and 6.3.5), SETACL and
-- DELETEACL (RFC 4314, sections 3.1 and 3.2).
use Rattle.std.specs.Prelude.{ℕ, ◌+◌, ◌==◌, List, [], ◌∷◌, ◌++◌, Option, Some, None, Result, Ok, Err}
use Rattle.std.specs.Prelude.{if◌then◌else◌}
use Rattle.std.specs.FinMap as map
use Rattle.imap_names.specs.Name.{Name}
use Rattle.imap_names.specs.Order.{Names}
use Rattle.imap_rights.specs.Acl.{AclMap, owner_acl, with_entry, is_full_for}
use Rattle.imap_rights.specs.Change.{applied}
use Rattle.imap_rights.specs.Effective.{entry}
use Rattle.imap_rights.specs.declared.change.RightsChange.{RightsChange}
use Rattle.imap_world.specs.Mailbox.{Mailbox}
use Rattle.imap_world.specs.declared.error.WorldError.{WorldError}
use Rattle.imap_world.specs.declared.error.WorldError.TheVariants.{Limit}
use Rattle.imap_world.specs.NewMailbox.{NewMailbox, mailbox_in}
use Rattle.imap_world.specs.World.{World, epoch, max_validity}

-- ---- access control lists

-- the list with an identifier's rights changed (RFC 4314, section 3.1), unless it would have an entry too
-- many
abbrev pub acl_with_rights : AclMap → List ℕ → RightsChange → Result AclMap WorldError
acl_with_rights acl identifier change =
    let rights = applied change (entry acl identifier) in
    if is_full_for acl identifier rights then Err Limit else Ok (with_entry acl identifier rights)

abbrev pub mailboxes_with_list : Names Mailbox → Name → AclMap → Option Mailbox → Names Mailbox
mailboxes_with_list mailboxes name acl None = mailboxes
mailboxes_with_list mailboxes name acl (Some mailbox) =
    map.insert mailboxes name (record mailbox { acl = acl })

-- with this list on the mailbox, if it is there
abbrev pub with_acl : World → Name → AclMap → World
with_acl world name acl =
    record world { mailboxes = mailboxes_with_list world.mailboxes name acl (map.get world.mailboxes name) }

-- ---- mailboxes that go

-- without the mailbox; its UIDVALIDITY stays counted
abbrev pub without : World → Name → World
without world name = record world { mailboxes = map.remove world.mailboxes name }

-- ---- mailboxes that are made

-- with this mailbox under the name; its UIDVALIDITY is the greatest that was used there
abbrev pub with_row : World → NewMailbox → World
with_row world row = record world {
  mailboxes = map.insert world.mailboxes row.name (mailbox_in row);
  epochs = map.insert world.epochs row.name row.validity;
}

-- a mailbox that is made under the name has the next UIDVALIDITY, if one is left (RFC 9051, section 2.3.1.1)
abbrev pub new_row : Names ℕ → Name → AclMap → Result NewMailbox WorldError
new_row epochs name acl =
    if epoch epochs name == max_validity then Err Limit
    else Ok (record { name = name; validity = epoch epochs name + 1; acl = acl })

abbrev pub acl_or : Option Mailbox → AclMap → AclMap
acl_or None deeper = deeper
acl_or (Some mailbox) deeper = mailbox.acl

-- the list of the nearest superior that is there; that of a root gives its owner all rights
abbrev pub inherited : Names Mailbox → (owner : List ℕ) → Name → AclMap
inherited mailboxes owner [] = owner_acl owner
inherited mailboxes owner (root ∷ []) = owner_acl owner
inherited mailboxes owner (deepest ∷ root ∷ []) = owner_acl owner
inherited mailboxes owner (deepest ∷ above ∷ next ∷ more) =
    acl_or (map.get mailboxes (above ∷ next ∷ more)) (inherited mailboxes owner (above ∷ next ∷ more))

abbrev pub with_last :
    Result (List NewMailbox) WorldError → Result NewMailbox WorldError → Result (List NewMailbox) WorldError
with_last (Err error) row = Err error
with_last (Ok rows) (Err error) = Err error
with_last (Ok rows) (Ok row) = Ok (rows ++ row ∷ [])

-- what is made with a name: its superiors that aren't there, from the outermost on, and last itself
abbrev pub rows_for : World → AclMap → Name → Result (List NewMailbox) WorldError
rows_for world acl [] = Ok []
rows_for world acl (root ∷ []) = Ok []
rows_for world acl (deepest ∷ above ∷ more) =
    if map.contains_key world.mailboxes (deepest ∷ above ∷ more) then Ok []
    else with_last (rows_for world acl (above ∷ more)) (new_row world.epochs (deepest ∷ above ∷ more) acl)

-- of the name, whose tree has this owner
abbrev pub created_rows : World → (owner : List ℕ) → Name → Result (List NewMailbox) WorldError
created_rows world owner name = rows_for world (inherited world.mailboxes owner name) name

abbrev pub with_rows : World → List NewMailbox → World
with_rows world [] = world
with_rows world (row ∷ rows) = with_rows (with_row world row) rows
