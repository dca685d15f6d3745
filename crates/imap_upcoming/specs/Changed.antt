-- What a change that a user asked for makes of a mailbox that is there. Its last write says so: the writes
-- before that one make superiors that aren't there yet (RFC 9051, sections 6.3.4 and 6.3.6).
use Rattle.std.specs.Prelude.{◌≡◌, ℕ, ◌-◌, Bool, List, length, slice_get, if◌then◌else◌}
use Rattle.std.specs.Prelude.{Option, Some, None, option_and_then, option_map}
use Rattle.imap_batch.specs.Written.{with_batch, MayWrite}
use Rattle.imap_batch.specs.declared.write.BatchWrite.{BatchWrite}
use Rattle.imap_mailbox.specs.Summary.{Summary}
use Rattle.imap_names.specs.Name.{Name}
use Rattle.imap_names.specs.Order.{is_within}
use Rattle.imap_rights.specs.Acl.{AclMap}
use Rattle.imap_world.specs.declared.change.Write.{Write}
use Rattle.imap_world.specs.declared.change.Write.TheVariants as write
use Rattle.imap_world.specs.declared.named_batch.NamedWrite.{NamedWrite}
use Rattle.imap_world.specs.Mailbox.{Mailbox}
use Rattle.imap_world.specs.Messages.{is_same_name}

abbrev pub last_write : List Write → Option Write
last_write writes = slice_get writes (length writes - 1)

-- ---- its access control list

abbrev pub acl_unless : (goes : Bool) → AclMap → Option AclMap
acl_unless goes acl = if goes then None else Some acl

-- after a write, if the mailbox keeps the name. `acl` is the list before
abbrev pub acl_written : (name : Name) → AclMap → Write → Option AclMap
acl_written name acl (write.Put row) = Some acl
acl_written name acl (write.SetAcl changed new) = Some (if is_same_name name changed then new else acl)
acl_written name acl (write.Remove gone) = acl_unless (is_same_name name gone) acl
acl_written name acl (write.Move old new arrivals) = acl_unless (is_within old name) acl
acl_written name acl (write.Messages part other) = Some acl
acl_written name acl (write.Subscribe user of) = Some acl
acl_written name acl (write.Unsubscribe user of) = Some acl

abbrev pub acl_by : (name : Name) → AclMap → Option Write → Option AclMap
acl_by name acl None = Some acl
acl_by name acl (Some last) = acl_written name acl last

abbrev pub acl_after : (name : Name) → AclMap → List Write → Option AclMap
acl_after name acl change = acl_by name acl (last_write change)

-- ---- its messages

abbrev pub other_for : (name : Name) → Option NamedWrite → Option BatchWrite
other_for name None = None
other_for name (Some other) = if is_same_name name other.name then Some other.write else None

abbrev pub part_for : (name : Name) → NamedWrite → Option NamedWrite → Option BatchWrite
part_for name part other =
    if is_same_name name part.name then Some part.write else other_for name other

-- what a write writes to the messages of the mailbox, if anything
abbrev pub batch_written : (name : Name) → Write → Option BatchWrite
batch_written name (write.Put row) = None
batch_written name (write.SetAcl changed new) = None
batch_written name (write.Remove gone) = None
batch_written name (write.Move old new arrivals) = None
batch_written name (write.Messages part other) = part_for name part other
batch_written name (write.Subscribe user of) = None
batch_written name (write.Unsubscribe user of) = None

abbrev pub batch_for : (name : Name) → List Write → Option BatchWrite
batch_for name change = option_and_then (batch_written name) (last_write change)

-- it is what was found for these messages, and the user's own
abbrev pub MayBeMade : (user : List ℕ) → (name : Name) → List Write → Summary → Type 0
MayBeMade user name change s =
    (w : BatchWrite) → batch_for name change ≡ Some w → MayWrite w s × (w.batch.user ≡ user)

abbrev pub messages_after : Option BatchWrite → Summary → Summary
messages_after None s = s
messages_after (Some w) s = with_batch w.batch s

-- ---- all of it

-- the mailbox of the name, if it keeps the name
abbrev pub mailbox_after : (name : Name) → List Write → Mailbox → Option Mailbox
mailbox_after name change m =
    let messages = messages_after (batch_for name change) m.messages in
    option_map (λ acl. record { validity = m.validity; acl = acl; messages = messages })
    (acl_after name m.acl change)
