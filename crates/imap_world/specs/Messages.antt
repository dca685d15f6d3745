-- What is asked of the messages of one mailbox, or of two, what is written for it, and what that makes of the
-- mailboxes.
use Rattle.std.specs.Prelude.{Bool, List, [], ◌∷◌, Option, Some, None, Result, Ok, Err, if◌then◌else◌}
use Rattle.std.specs.FinMap as map
use Rattle.std.specs.Ordering.{eq_by_cmp}
use Rattle.imap_batch.specs.Batch.{write_for}
use Rattle.imap_batch.specs.Written.{with_batch}
use Rattle.imap_batch.specs.declared.batch.Batch.{Batch}
use Rattle.imap_batch.specs.declared.error.BatchError.{BatchError}
use Rattle.imap_batch.specs.declared.error.BatchError.TheVariants as batch_error
use Rattle.imap_batch.specs.declared.write.BatchWrite.{BatchWrite}
use Rattle.imap_names.specs.Name.{Name}
use Rattle.imap_names.specs.Order.{Names, name_cmp}
use Rattle.imap_world.specs.Mailbox.{Mailbox}
use Rattle.imap_world.specs.World.{World}
use Rattle.imap_world.specs.declared.change.Write.{Write}
use Rattle.imap_world.specs.declared.change.Write.TheVariants as write
use Rattle.imap_world.specs.declared.error.WorldError.{WorldError}
use Rattle.imap_world.specs.declared.error.WorldError.TheVariants.{NoSuch, Cannot, Limit, Memory}
use Rattle.imap_world.specs.declared.named_batch.NamedBatch.{NamedBatch}
use Rattle.imap_world.specs.declared.named_batch.NamedWrite.{NamedWrite}

abbrev pub is_same_name : Name → Name → Bool
is_same_name = eq_by_cmp name_cmp

-- ---- what is written

-- with the messages of the mailbox changed, if it is there
abbrev pub messages_changed : Batch → Names Mailbox → Name → Option Mailbox → Names Mailbox
messages_changed batch mailboxes name None = mailboxes
messages_changed batch mailboxes name (Some m) =
    map.insert mailboxes name (record m { messages = with_batch batch m.messages })

abbrev pub with_part : Names Mailbox → NamedWrite → Names Mailbox
with_part mailboxes w = messages_changed w.write.batch mailboxes w.name (map.get mailboxes w.name)

-- with the messages of one mailbox changed, and of another one
abbrev pub with_parts : Names Mailbox → NamedWrite → Option NamedWrite → Names Mailbox
with_parts mailboxes w None = with_part mailboxes w
with_parts mailboxes w (Some other) = with_part (with_part mailboxes w) other

abbrev pub with_messages : World → NamedWrite → Option NamedWrite → World
with_messages world w other = record world { mailboxes = with_parts world.mailboxes w other }

-- ---- what is asked

abbrev pub refusal : BatchError → WorldError
refusal batch_error.Limit = Limit
refusal batch_error.NoSuchUid = NoSuch
refusal batch_error.Memory = Memory

abbrev pub part_of : Name → Result BatchWrite BatchError → Result NamedWrite WorldError
part_of name (Err error) = Err (refusal error)
part_of name (Ok found) = Ok (record { name = name; write = found })

abbrev pub part_at : NamedBatch → Option Mailbox → Result NamedWrite WorldError
part_at part None = Err NoSuch
part_at part (Some m) = part_of part.name (write_for part.batch m.messages)

-- what is written to the messages of one mailbox, by the mailbox as it is
abbrev pub part_in : Names Mailbox → NamedBatch → Result NamedWrite WorldError
part_in mailboxes part = part_at part (map.get mailboxes part.name)

abbrev pub one_part : Result NamedWrite WorldError → Result (List Write) WorldError
one_part (Err error) = Err error
one_part (Ok w) = Ok (write.Messages w None ∷ [])

abbrev pub two_parts :
    Result NamedWrite WorldError → Result NamedWrite WorldError → Result (List Write) WorldError
two_parts (Err error) other = Err error
two_parts (Ok w) (Err error) = Err error
two_parts (Ok w) (Ok other) = Ok (write.Messages w (Some other) ∷ [])

-- Both parts are one write. They are of different mailboxes: one mailbox has one part.
abbrev pub messages_written :
    Names Mailbox → NamedBatch → Option NamedBatch → Result (List Write) WorldError
messages_written mailboxes part None = one_part (part_in mailboxes part)
messages_written mailboxes part (Some other) =
    if is_same_name other.name part.name then Err Cannot
    else two_parts (part_in mailboxes part) (part_in mailboxes other)
