-- What each change meets that was found for some world: its numbers are small, and mailboxes move where it
-- says.
use Rattle.std.specs.Prelude.{◌≡◌, ◌<◌, ◌≤◌, ◌+◌, true, List, length, Option, Some, None}
use Rattle.std.specs.List.{AllByRecursion, list_all}
use Rattle.imap_batch.specs.Batch.{event_count, has_uids}
use Rattle.imap_batch.specs.declared.write.BatchWrite.{BatchWrite}
use Rattle.imap_modseq.specs.Numbers.{max_events}
use Rattle.imap_names.specs.Order.{is_within}
use Rattle.imap_names.specs.Valid.{IsName}
use Rattle.imap_world.specs.declared.change.Write.{Write}
use Rattle.imap_world.specs.declared.change.Write.TheVariants as write
use Rattle.imap_world.specs.declared.named_batch.NamedWrite.{NamedWrite}

-- UIDs and shared events are left for the batch, and own changes that go are among those that a user may have
pub record IsBounded (w : BatchWrite) : Type 0 where
  pub uids : has_uids (length w.batch.added) w.first_uid ≡ true
  pub places : w.first_place + event_count w.batch ≤ max_events
  pub dropped : AllByRecursion (λ p. p < max_events) w.dropped

abbrev pub IsOtherBounded : Option NamedWrite → Type 0
IsOtherBounded None = Unit {0}
IsOtherBounded (Some w) = IsBounded w.write

abbrev pub IsBoundedWrite : Write → Type 0
IsBoundedWrite (write.Put row) = Unit {0}
IsBoundedWrite (write.SetAcl name acl) = Unit {0}
IsBoundedWrite (write.Remove name) = Unit {0}
IsBoundedWrite (write.Move old new arrivals) = list_all (λ a. is_within new a.0) arrivals ≡ true
IsBoundedWrite (write.Messages part other) = IsBounded part.write × IsOtherBounded other
IsBoundedWrite (write.Subscribe user name) = Unit {0}
IsBoundedWrite (write.Unsubscribe user name) = Unit {0}

abbrev pub AreBounded : List Write → Type 0
AreBounded writes = AllByRecursion IsBoundedWrite writes

-- the names of what it writes are names of mailboxes
abbrev pub IsNamedWrite : Write → Type 0
IsNamedWrite (write.Put row) = IsName row.name
IsNamedWrite (write.SetAcl name acl) = IsName name
IsNamedWrite (write.Remove name) = IsName name
IsNamedWrite (write.Move old new arrivals) = AllByRecursion (λ a. IsName a.0) arrivals
IsNamedWrite (write.Messages part other) = Unit {0}
IsNamedWrite (write.Subscribe user name) = IsName name
IsNamedWrite (write.Unsubscribe user name) = IsName name

abbrev pub AreNamed : List Write → Type 0
AreNamed writes = AllByRecursion IsNamedWrite writes
