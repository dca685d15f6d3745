-- Tables stand for the changed world once the rows of a change are written.
use Rattle.std.proofs.Common.{◌≡◌, ◌<◌, ◌≤◌, ◌+◌, length, false, cond, ℕ, List, [], ◌∷◌, ◌++◌, Option, Some, None, is_some, refl, sym, ap, subst, ◌∙◌}
use Rattle.std.specs.FinMap as map
use Rattle.std.specs.List.{AllByRecursion, list_all}
use Rattle.std.proofs.lemmas.Bool.{and_parts, leb-true}
use Rattle.sqlite.specs.Tree.{Trees}
use Rattle.imap_batch.proofs.OwnRows.{dropped_small}
use Rattle.imap_batch.specs.Batch.{event_count, has_uids}
use Rattle.imap_batch.specs.declared.write.BatchWrite.{BatchWrite}
use Rattle.imap_batch.specs.Written.{MayWrite as MayWriteBatch, with_batch}
use Rattle.imap_names.specs.Name.{Name}
use Rattle.imap_modseq.specs.Numbers.{max_events}
use Rattle.imap_names.specs.Order.{Names, is_within}
use Rattle.imap_names.specs.Valid.{IsName}
use Rattle.imap_names.proofs.NameLaws.{get_put}
use Rattle.imap_world.specs.Effects.{after_write, after_writes}
use Rattle.imap_world.specs.Mailbox.{Mailbox}
use Rattle.imap_world.specs.Messages.{is_same_name, messages_changed, with_messages, with_part}
use Rattle.imap_world.specs.Ready.{IsCurrent, MayBeWritten, MayChange, MayChangeAt, MayWrite}
use Rattle.imap_world.specs.Tree.{without}
use Rattle.imap_world.specs.World.{World}
use Rattle.imap_world.specs.declared.change.Write.{Write}
use Rattle.imap_world.specs.declared.change.Write.TheVariants as write
use Rattle.imap_world.specs.declared.named_batch.NamedWrite.{NamedWrite}
use Rattle.imap_world.proofs.Fitting.{apart_may}
use Rattle.imap_world.proofs.Moves.{arrivals_within}
use Rattle.imap_tables.specs.Changes.{MakesAll}
use Rattle.imap_tables.specs.declared.changes.RowChange.{RowChange}
use Rattle.imap_records.specs.Bounds.{AreBounded, AreNamed, IsBounded, IsBoundedWrite, IsNamedWrite}
use Rattle.imap_records.specs.Standing.{Kept, StandFor}
use Rattle.imap_records.specs.Steps.{StepBelow, batch_steps, gap_steps, other_steps, part_steps, steps_for, steps_in, steps_of, steps_under}
use Rattle.imap_records.proofs.Arriving.{all_moved}
use Rattle.imap_records.proofs.Batches.{batch_made, found_after, kept_after}
use Rattle.imap_records.proofs.Closing.{none_left, others_apart, others_found, others_free, others_named, put_again, put_among, set_beside}
use Rattle.imap_records.proofs.Keys.{IsFound, found}
use Rattle.imap_records.proofs.Making.{MakesBelowAll, MakesSteps, all_made, steps_split}
use Rattle.imap_records.proofs.Others.{gaps_allowed, subscription_put, subscription_removed}
use Rattle.imap_records.proofs.Mailboxes.{list_set, mailbox_put, mailbox_removed}

-- ---- messages

-- steps below a mailbox that is there
under_made : (old new : Trees) (world : World) (stand : StandFor old world) (name : Name) (valid : IsName name) (steps : List StepBelow) → MakesSteps (steps_under name steps) old new → MakesBelowAll (stand.id name) steps old new
under_made old new world stand name valid [] made = made
under_made old new world stand name valid (step ∷ steps) (mid, (i, at, below), end) =
    let f : IsFound world stand.id name i = found old world stand name valid i at in
    subst (λ (db : Trees). MakesBelowAll (stand.id name) (step ∷ steps) old db) (sym end) (subst (λ k. MakesBelowAll k (step ∷ steps) old mid) f.same below)

batch_part : (old new : Trees) (world : World) (w : NamedWrite) (m : Mailbox) → map.get world.mailboxes w.name ≡ Some m → MayWriteBatch w.write m.messages → StandFor old world → MakesSteps (steps_under w.name (batch_steps w.write)) old new
    → StandFor new (record world { mailboxes = with_part world.mailboxes w })
batch_part old new world w m there may stand made =
    let valid : IsName w.name = stand.named.mailboxes w.name m there in
    let n : Mailbox = record m { messages = with_batch w.write.batch m.messages } in
    let free = others_free world w.name m there old stand in
    let k : Kept = stand.kept w.name in
    let B : World = without world w.name in
    let done = batch_made B stand.id stand.kept (stand.id w.name) free w.name m k w.write may old new (under_made old new world stand w.name valid (batch_steps w.write) made) (set_beside world w.name m there old stand) in
    let found = found_after B stand.id stand.kept (stand.id w.name) free w.name m k w.write may (stand.found w.name m there) in
    let after : Kept = kept_after B stand.id stand.kept (stand.id w.name) free w.name m k w.write may in
    let whole = put_among B stand.id stand.kept w.name (stand.id w.name) after n (none_left world w.name m there) free (others_apart world w.name m there old stand) (others_named world w.name m there old stand)
    (others_found world w.name m there old stand) valid found new done in
    subst (StandFor new) (sym (ap (λ o. record world { mailboxes = messages_changed w.write.batch world.mailboxes w.name o }) there)) (subst (StandFor new) (put_again world w.name m there n) whole)

-- the version is set first, if own changes go
gaps_made : (old new : Trees) (world : World) (dropped : List ℕ) → StandFor old world → MakesSteps (gap_steps dropped) old new → StandFor new world
gaps_made old new world [] stand made = subst (λ (db : Trees). StandFor db world) (sym made) stand
gaps_made old new world (place ∷ dropped) stand (mid, sets, end) = subst (λ (db : Trees). StandFor db world) (sym end) (gaps_allowed old mid world stand sets)

part_made : (old new : Trees) (world : World) (w : NamedWrite) (m : Mailbox) → map.get world.mailboxes w.name ≡ Some m → MayWriteBatch w.write m.messages → StandFor old world → MakesSteps (part_steps w) old new
    → StandFor new (record world { mailboxes = with_part world.mailboxes w })
part_made old new world w m there may stand made =
    let parts = steps_split (gap_steps w.write.dropped) (steps_under w.name (batch_steps w.write)) old new made in
    batch_part parts.0 new world w m there may (gaps_made old parts.0 world w.write.dropped stand parts.1) parts.2

pub record IsThere (mailboxes : Names Mailbox) (w : NamedWrite) : Type 0 where
  pub mailbox : Mailbox
  pub there : map.get mailboxes w.name ≡ Some mailbox
  pub may : MayWriteBatch w.write mailbox.messages

pub is_there : (mailboxes : Names Mailbox) (w : NamedWrite) → MayChange mailboxes w → IsThere mailboxes w
is_there mailboxes w change = by (map.get mailboxes w.name) refl change
  where
    by : (o : Option Mailbox) → map.get mailboxes w.name ≡ o → MayChangeAt w.write o → IsThere mailboxes w
    by None is h = absurd h
    by (Some m) is h = record { mailbox = m; there = is; may = h }

-- another mailbox is still there
pub other_there : (mailboxes : Names Mailbox) (w other : NamedWrite) (m k : Mailbox) → is_same_name other.name w.name ≡ false → map.get mailboxes w.name ≡ Some m → map.get mailboxes other.name ≡ Some k
    → map.get (with_part mailboxes w) other.name ≡ Some k
other_there mailboxes w other m k apart there kept =
    ap (λ o. map.get (messages_changed w.write.batch mailboxes w.name o) other.name) there
    ∙ get_put mailboxes w.name (record m { messages = with_batch w.write.batch m.messages }) other.name
    ∙ ap (λ b. cond b (Some (record m { messages = with_batch w.write.batch m.messages })) (map.get mailboxes other.name)) apart ∙ kept

messages_made : (old new : Trees) (world : World) (w : NamedWrite) (other : Option NamedWrite) → MayWrite (write.Messages w other) world → StandFor old world → MakesSteps (part_steps w ++ other_steps other) old new
    → StandFor new (with_messages world w other)
messages_made old new world w None may stand made =
    let t = is_there world.mailboxes w may.0 in
    let parts = steps_split (part_steps w) [] old new made in
    subst (λ (db : Trees). StandFor db (record world { mailboxes = with_part world.mailboxes w })) (sym parts.2) (part_made old parts.0 world w t.mailbox t.there t.may stand parts.1)
messages_made old new world w (Some other) may stand made =
    let t = is_there world.mailboxes w may.0 in
    let u = is_there world.mailboxes other may.1.1 in
    let parts = steps_split (part_steps w) (part_steps other) old new made in
    let first = part_made old parts.0 world w t.mailbox t.there t.may stand parts.1 in
    part_made parts.0 new (record world { mailboxes = with_part world.mailboxes w }) other u.mailbox
    (other_there world.mailboxes w other t.mailbox u.mailbox may.1.0 t.there u.there) u.may first parts.2

-- ---- each write

absent_from : {X : Type 0} (o : Option X) → is_some o ≡ false → o ≡ None
absent_from None e = refl
absent_from (Some x) e = absurd (cc e)

write_made : (w : Write) (old new : Trees) (world : World) → MayWrite w world → IsNamedWrite w → StandFor old world → MakesSteps (steps_for w) old new → StandFor new (after_write w world)
write_made (write.Put row) old new world may valid stand made = mailbox_put old new world row valid (absent_from (map.get world.mailboxes row.name) may.free) stand made
write_made (write.SetAcl name acl) old new world may valid stand made = list_set old new world name acl valid stand made
write_made (write.Remove name) old new world may valid stand (mid, removes, end) =
    subst (λ (db : Trees). StandFor db (without world name)) (sym end) (mailbox_removed old mid world stand name valid removes)
write_made (write.Move from to arrivals) old new world may valid stand made = all_moved world from to arrivals may old new valid stand made
write_made (write.Messages w other) old new world may valid stand made = messages_made old new world w other may stand made
write_made (write.Subscribe user name) old new world may valid stand (mid, puts, end) =
    subst (λ (db : Trees). StandFor db (after_write (write.Subscribe user name) world)) (sym end) (subscription_put old mid world user name valid stand puts)
write_made (write.Unsubscribe user name) old new world may valid stand (mid, removes, end) =
    subst (λ (db : Trees). StandFor db (after_write (write.Unsubscribe user name) world)) (sym end) (subscription_removed old mid world user name valid stand removes)

writes_made : (writes : List Write) (old new : Trees) (world : World) → MayBeWritten writes world → AreNamed writes → StandFor old world → MakesSteps (steps_of writes) old new → StandFor new (after_writes writes world)
writes_made [] old new world may valid stand made = subst (λ (db : Trees). StandFor db world) (sym made) stand
writes_made (w ∷ writes) old new world may valid stand made =
    let parts = steps_split (steps_for w) (steps_of writes) old new made in
    writes_made writes parts.0 new (after_write w world) may.1 valid.1 (write_made w old parts.0 world may.0 valid.0 stand parts.1) parts.2

pub may_be_written : (change : List Write) (world : World) → IsCurrent change world → MayBeWritten change world
may_be_written change world (effects, apart, writes) = apart_may world effects change apart writes

-- the changes of rows are those of the change
pub change_stands : (change : List Write) (changes : List RowChange) → steps_in changes ≡ steps_of change → AreNamed change → (world : World) (old new : Trees) → IsCurrent change world → StandFor old world
    → MakesAll changes old new → StandFor new (after_writes change world)
change_stands change changes same valid world old new current stand made =
    writes_made change old new world (may_be_written change world current) valid stand (subst (λ steps. MakesSteps steps old new) same (all_made changes old new made))

-- ---- what a change meets that was found for some world

bounded_part : (mailboxes : Names Mailbox) (w : NamedWrite) → MayChange mailboxes w → IsBounded w.write
bounded_part mailboxes w change =
    let t = is_there mailboxes w change in
    let numbers = and_parts _ _ t.may.numbers in
    record {
      uids = ap (λ n. has_uids (length w.write.batch.added) n) (ap (λ (x : BatchWrite). x.first_uid) t.may.current) ∙ numbers.0;
      places = subst (λ n. n + event_count w.write.batch ≤ max_events) (sym (ap (λ (x : BatchWrite). x.first_place) t.may.current)) (leb-true _ _ numbers.1);
      dropped = subst (λ (x : BatchWrite). AllByRecursion (λ (p : ℕ). p < max_events) x.dropped) (sym t.may.current) (dropped_small _ _ _);
    }

bounded : (w : Write) (world : World) → MayWrite w world → IsBoundedWrite w
bounded (write.Put row) world may = tt
bounded (write.SetAcl name acl) world may = tt
bounded (write.Remove name) world may = tt
bounded (write.Move old new arrivals) world may = ap (λ came. list_all (λ a. is_within new a.0) came) may.next ∙ arrivals_within world.epochs old new world.mailboxes
bounded (write.Messages w None) world may = (bounded_part world.mailboxes w may.0, tt)
bounded (write.Messages w (Some other)) world may = (bounded_part world.mailboxes w may.0, bounded_part world.mailboxes other may.1.1)
bounded (write.Subscribe user name) world may = tt
bounded (write.Unsubscribe user name) world may = tt

all_bounded : (writes : List Write) (world : World) → MayBeWritten writes world → AreBounded writes
all_bounded [] world may = tt
all_bounded (w ∷ writes) world may = (bounded w world may.0, all_bounded writes (after_write w world) may.1)

pub current_is_bounded : (change : List Write) (world : World) → IsCurrent change world → AreBounded change
current_is_bounded change world current = all_bounded change world (may_be_written change world current)
