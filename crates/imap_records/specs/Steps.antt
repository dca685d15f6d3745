-- The rows that a change of a world writes.
use Rattle.std.specs.Prelude.{ℕ, ℤ, pos, ◌+◌, ◌==◌, Bool, List, [], ◌∷◌, ◌++◌, length, map}
use Rattle.std.specs.Prelude.{Option, Some, None, if◌then◌else◌, string_bytes}
use Rattle.std.specs.FinMap as fin
use Rattle.imap_batch.specs.Batch.{event_count}
use Rattle.imap_batch.specs.Entered.{FlagChange, flag_changes, gone_added, messages_added, own_changes}
use Rattle.imap_batch.specs.declared.write.BatchWrite.{BatchWrite}
use Rattle.imap_mailbox.specs.declared.message.GoneMessage.{GoneMessage}
use Rattle.imap_mailbox.specs.declared.message.Message.{Message}
use Rattle.imap_mailbox.specs.declared.kept_change.KeptChange.{KeptChange}
use Rattle.imap_mailbox.specs.declared.own.SeenChange.{SeenChange}
use Rattle.imap_mailbox.specs.Own.{numbered}
use Rattle.imap_names.specs.Name.{Name, path_of}
use Rattle.imap_names.specs.Order.{moved}
use Rattle.imap_records.specs.Columns.{date_text, flag_bits, keywords_text, place_value, tree_text}
use Rattle.imap_rights.specs.Acl.{AclMap}
use Rattle.imap_tables.specs.declared.changes.ChangeBelow.{ChangeBelow}
use Rattle.imap_tables.specs.declared.changes.ChangeBelow.TheVariants as below
use Rattle.imap_tables.specs.declared.changes.RowChange.{RowChange}
use Rattle.imap_tables.specs.declared.changes.RowChange.TheVariants as change
use Rattle.imap_world.specs.declared.change.Write.{Write}
use Rattle.imap_world.specs.declared.change.Write.TheVariants as write
use Rattle.imap_world.specs.declared.named_batch.NamedWrite.{NamedWrite}

-- ---- changes of rows, with their texts as octets

pub data StepBelow : Type 0 where
  RemoveAcl : StepBelow
  AddEntry : (identifier : List ℕ) (rights : ℕ) → StepBelow
  AddMessage : (uid : ℕ) (date octets : List ℕ) (flags : ℕ) (keywords : List ℕ) (place : ℤ) → StepBelow
  FlagMessage : (uid flags : ℕ) (keywords : List ℕ) (place : ℤ) → StepBelow
  RemoveMessage : (uid : ℕ) → StepBelow
  AddGone : (uid : ℕ) (place : ℤ) → StepBelow
  AddMark : (user : List ℕ) (own before : ℤ) (uid : ℕ) (seen : Bool) → StepBelow
  RemoveMark : (user : List ℕ) (own : ℤ) → StepBelow
  Count : (uidnext : ℕ) (shared : ℤ) → StepBelow

pub data Step : Type 0 where
  AddMailbox : (tree path : List ℕ) (validity : ℕ) → Step
  MoveMailbox : (tree path to : List ℕ) (validity : ℕ) → Step
  RemoveMailbox : (tree path : List ℕ) → Step
  PutEpoch : (tree path : List ℕ) (greatest : ℕ) → Step
  PutSubscription : (user tree path : List ℕ) → Step
  RemoveSubscription : (user tree path : List ℕ) → Step
  Below : (tree path : List ℕ) (steps : List StepBelow) → Step
  AllowGaps : Step

abbrev pub below_of : ChangeBelow → StepBelow
below_of below.RemoveAcl = RemoveAcl
below_of (below.AddEntry identifier rights) = AddEntry (string_bytes identifier) rights
below_of (below.AddMessage m) =
    AddMessage m.uid (string_bytes m.date) m.octets m.flags (string_bytes m.keywords) m.place
below_of (below.FlagMessage m) = FlagMessage m.uid m.flags (string_bytes m.keywords) m.place
below_of (below.RemoveMessage uid) = RemoveMessage uid
below_of (below.AddGone uid place) = AddGone uid place
below_of (below.AddMark m) = AddMark (string_bytes m.user) m.own m.before m.uid m.seen
below_of (below.RemoveMark user own) = RemoveMark (string_bytes user) own
below_of (below.Count uidnext shared) = Count uidnext shared

abbrev pub step_of : RowChange → Step
step_of (change.AddMailbox key validity) = AddMailbox (string_bytes key.tree) (string_bytes key.path) validity
step_of (change.MoveMailbox key to validity) =
    MoveMailbox (string_bytes key.tree) (string_bytes key.path) (string_bytes to) validity
step_of (change.RemoveMailbox key) = RemoveMailbox (string_bytes key.tree) (string_bytes key.path)
step_of (change.PutEpoch key greatest) = PutEpoch (string_bytes key.tree) (string_bytes key.path) greatest
step_of (change.PutSubscription user key) =
    PutSubscription (string_bytes user) (string_bytes key.tree) (string_bytes key.path)
step_of (change.RemoveSubscription user key) =
    RemoveSubscription (string_bytes user) (string_bytes key.tree) (string_bytes key.path)
step_of (change.Below key changes) =
    Below (string_bytes key.tree) (string_bytes key.path) (map below_of changes.items)
step_of change.AllowGaps = AllowGaps

abbrev pub steps_in : List RowChange → List Step
steps_in changes = map step_of changes

-- ---- below a mailbox

abbrev pub entry_step : List ℕ × ℕ → StepBelow
entry_step e = AddEntry e.0 e.1

abbrev pub message_step : Message → StepBelow
message_step m =
    AddMessage m.uid (date_text m.date) m.octets (flag_bits m.flags) (keywords_text m.flags.keywords)
    (place_value m.place)

abbrev pub flag_step : FlagChange → StepBelow
flag_step c = FlagMessage c.uid (flag_bits c.flags) (keywords_text c.flags.keywords) (place_value c.place)

abbrev pub gone_step : GoneMessage → StepBelow
gone_step g = AddGone g.uid (place_value g.place)

abbrev pub mark_step : (user : List ℕ) → KeptChange → StepBelow
mark_step user k = AddMark user (place_value k.place) (pos k.before) k.uid k.seen

-- of a user's own changes, the first of which has the place
abbrev pub mark_steps : (user : List ℕ) (place : ℕ) → List SeenChange → List StepBelow
mark_steps user place own = map (mark_step user) (numbered place own)

-- the own change of the user at the place goes
abbrev pub drop_step : (user : List ℕ) (place : ℕ) → StepBelow
drop_step user place = RemoveMark user (place_value place)

-- UIDNEXT and the number of shared events, if there are new ones
abbrev pub count_steps : BatchWrite → List StepBelow
count_steps w =
    if event_count w.batch == 0 then []
    else Count (w.first_uid + length w.batch.added) (pos (w.first_place + event_count w.batch)) ∷ []

-- messages that are added, get flags, and go
abbrev pub message_steps : BatchWrite → List StepBelow
message_steps w =
    map message_step (messages_added w)
    ++ (map flag_step (flag_changes w)
    ++ (map RemoveMessage w.batch.expunged ++ map gone_step (gone_added w)))

abbrev pub own_steps : BatchWrite → List StepBelow
own_steps w =
    map (drop_step w.batch.user) w.dropped ++ mark_steps w.batch.user w.own_before (own_changes w)

-- first the messages, then the user's own changes, of which those that go come first, last the numbers
abbrev pub batch_steps : BatchWrite → List StepBelow
batch_steps w = message_steps w ++ (own_steps w ++ count_steps w)

-- ---- of a change

-- the steps below the mailbox, if there are any
abbrev pub steps_under : Name → List StepBelow → List Step
steps_under name [] = []
steps_under name (step ∷ steps) = Below (tree_text name) (path_of name) (step ∷ steps) ∷ []

-- the tables say that own changes may be missing, if some go
abbrev pub gap_steps : (dropped : List ℕ) → List Step
gap_steps [] = []
gap_steps (place ∷ dropped) = AllowGaps ∷ []

abbrev pub part_steps : NamedWrite → List Step
part_steps w = gap_steps w.write.dropped ++ steps_under w.name (batch_steps w.write)

abbrev pub other_steps : Option NamedWrite → List Step
other_steps None = []
other_steps (Some w) = part_steps w

abbrev pub epoch_step : Name → (greatest : ℕ) → Step
epoch_step name greatest = PutEpoch (tree_text name) (path_of name) greatest

-- the mailbox of the old name gets the new one
abbrev pub move_steps : (from to : Name) → (validity : ℕ) → List Step
move_steps from to validity =
    MoveMailbox (tree_text from) (path_of from) (path_of to) validity ∷ epoch_step to validity ∷ []

-- each of the mailboxes that move, from where it was
abbrev pub arrival_steps : (old new : Name) → List (Name × ℕ) → List Step
arrival_steps old new [] = []
arrival_steps old new (a ∷ arrivals) =
    move_steps (moved new old a.0) a.0 a.1 ++ arrival_steps old new arrivals

-- its list is that, in place of the one before
abbrev pub acl_steps : AclMap → List StepBelow
acl_steps acl = map entry_step (fin.entries acl)

abbrev pub steps_for : Write → List Step
steps_for (write.Put row) =
    AddMailbox (tree_text row.name) (path_of row.name) row.validity
    ∷ Below (tree_text row.name) (path_of row.name) (acl_steps row.acl)
    ∷ epoch_step row.name row.validity ∷ []
steps_for (write.SetAcl name acl) =
    Below (tree_text name) (path_of name) (RemoveAcl ∷ acl_steps acl) ∷ []
steps_for (write.Remove name) = RemoveMailbox (tree_text name) (path_of name) ∷ []
steps_for (write.Move old new arrivals) = arrival_steps old new arrivals
steps_for (write.Messages part other) = part_steps part ++ other_steps other
steps_for (write.Subscribe user name) = PutSubscription user (tree_text name) (path_of name) ∷ []
steps_for (write.Unsubscribe user name) = RemoveSubscription user (tree_text name) (path_of name) ∷ []

abbrev pub steps_of : List Write → List Step
steps_of [] = []
steps_of (write ∷ writes) = steps_for write ++ steps_of writes
