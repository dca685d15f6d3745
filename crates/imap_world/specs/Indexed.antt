-- What finds the mailboxes of a world by the identifiers in their lists.
use Rattle.std.specs.Prelude.{◌≡◌, Some, None, option_map}
use Rattle.std.specs.FinMap as map
use Rattle.imap_identifier_index.specs.Index.{Index, IsIndexOf, Lists, with_list}
use Rattle.imap_names.specs.Name.{Name}
use Rattle.imap_names.specs.Order.{Names}
use Rattle.imap_rights.specs.Acl.{AclMap}
use Rattle.imap_world.specs.Mailbox.{Mailbox}

-- the lists of the mailboxes
abbrev pub lists_of : Names Mailbox → Lists
lists_of mailboxes name = option_map (λ mailbox. mailbox.acl) (map.get mailboxes name)

abbrev pub IsIndexIn : Index → Names Mailbox → Type 0
IsIndexIn index mailboxes = IsIndexOf index (lists_of mailboxes)

-- a mailbox of this name, with this list, is one more
abbrev pub IsAddedTo : (old new : Index) → Name → AclMap → Type 0
IsAddedTo old new name acl =
    (lists : Lists) → lists name ≡ None → IsIndexOf old lists
    → IsIndexOf new (with_list lists name (Some acl))
