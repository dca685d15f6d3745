-- What changes of rows make of the tables, by their texts as octets.
use Rattle.std.proofs.Common.{◌≡◌, ℤ, pos, List, [], ◌∷◌, ◌++◌, map, refl}
use Rattle.sqlite.specs.Tree.{Trees}
use Rattle.imap_tables.specs.declared.changes.ChangeBelow.{ChangeBelow}
use Rattle.imap_tables.specs.declared.changes.ChangeBelow.TheVariants as below
use Rattle.imap_tables.specs.declared.changes.RowChange.{RowChange}
use Rattle.imap_tables.specs.declared.changes.RowChange.TheVariants as change
use Rattle.imap_tables.specs.Changes.{AllowsGaps, Makes, MakesAll, MakesAllBelow, MakesBelow}
use Rattle.imap_tables.specs.Edits.{Adds, HasId, IsBelow, IsEpochOf, IsIdOf, IsMarkOf, IsMessageOf, IsNamed, IsSubOf}
use Rattle.imap_tables.specs.Edits.{Removes, RemovesMailboxes, Replaces, counted_row, flagged_row, moved_row}
use Rattle.imap_tables.specs.Rows.{acl_row, epoch_row, gone_row, mailbox_row, mark_row, message_row, sub_row}
use Rattle.imap_records.specs.Steps.{Step, StepBelow, below_of, step_of, steps_in}
use Rattle.imap_records.specs.Steps.{RemoveAcl, AddEntry, AddMessage, FlagMessage, RemoveMessage, AddGone, AddMark, RemoveMark, Count}
use Rattle.imap_records.specs.Steps.{AddMailbox, MoveMailbox, RemoveMailbox, PutEpoch, PutSubscription, RemoveSubscription, Below, AllowGaps}

-- ---- below the mailbox with this id

abbrev pub MakesOne : (mailbox : ℤ) → StepBelow → (old new : Trees) → Type 0
MakesOne mailbox RemoveAcl old new = Removes old new 2 (IsBelow mailbox)
MakesOne mailbox (AddEntry identifier rights) old new = Adds old new 2 (acl_row mailbox identifier rights)
MakesOne mailbox (AddMessage uid date octets flags keywords place) old new = Adds old new 4 (message_row mailbox uid date octets flags keywords place)
MakesOne mailbox (FlagMessage uid flags keywords place) old new = Replaces old new 4 (IsMessageOf mailbox uid) (flagged_row flags keywords place)
MakesOne mailbox (RemoveMessage uid) old new = Removes old new 4 (IsMessageOf mailbox uid)
MakesOne mailbox (AddGone uid place) old new = Adds old new 6 (gone_row mailbox uid place)
MakesOne mailbox (AddMark user own before uid seen) old new = Adds old new 8 (mark_row mailbox user own before uid seen)
MakesOne mailbox (RemoveMark user own) old new = Removes old new 8 (IsMarkOf mailbox user own)
MakesOne mailbox (Count uidnext shared) old new = Replaces old new 0 (HasId mailbox) (counted_row uidnext shared)

abbrev pub MakesBelowAll : (mailbox : ℤ) → List StepBelow → (old new : Trees) → Type 0
MakesBelowAll mailbox [] old new = new ≡ old
MakesBelowAll mailbox (s ∷ steps) old new = (mid : Trees) × MakesOne mailbox s old mid × MakesBelowAll mailbox steps mid new

one_of : (mailbox : ℤ) (c : ChangeBelow) (old new : Trees) → MakesBelow mailbox c old new → MakesOne mailbox (below_of c) old new
one_of mailbox below.RemoveAcl old new h = h
one_of mailbox (below.AddEntry identifier rights) old new h = h
one_of mailbox (below.AddMessage m) old new h = h
one_of mailbox (below.FlagMessage m) old new h = h
one_of mailbox (below.RemoveMessage uid) old new h = h
one_of mailbox (below.AddGone uid place) old new h = h
one_of mailbox (below.AddMark m) old new h = h
one_of mailbox (below.RemoveMark user own) old new h = h
one_of mailbox (below.Count uidnext shared) old new h = h

pub all_below : (mailbox : ℤ) (changes : List ChangeBelow) (old new : Trees) → MakesAllBelow mailbox changes old new → MakesBelowAll mailbox (map below_of changes) old new
all_below mailbox [] old new h = h
all_below mailbox (c ∷ changes) old new (mid, first, rest) = (mid, one_of mailbox c old mid first, all_below mailbox changes mid new rest)

-- one part after the other
pub below_split : (mailbox : ℤ) (first rest : List StepBelow) (old new : Trees) → MakesBelowAll mailbox (first ++ rest) old new
    → (mid : Trees) × MakesBelowAll mailbox first old mid × MakesBelowAll mailbox rest mid new
below_split mailbox [] rest old new h = (old, refl, h)
below_split mailbox (s ∷ first) rest old new (mid, one, more) =
    let (end, a, b) = below_split mailbox first rest mid new more in
    (end, (mid, one, a), b)

-- ---- in all tables

abbrev pub MakesStep : Step → (old new : Trees) → Type 0
MakesStep (AddMailbox tree path validity) old new = Adds old new 0 (λ id. mailbox_row id tree path validity 1 (pos 0))
MakesStep (MoveMailbox tree path to validity) old new = Replaces old new 0 (IsNamed tree path) (moved_row to validity)
MakesStep (RemoveMailbox tree path) old new = RemovesMailboxes old new (IsNamed tree path)
MakesStep (PutEpoch tree path greatest) old new = (mid : Trees) × Removes old mid 10 (IsEpochOf tree path) × Adds mid new 10 (epoch_row tree path greatest)
MakesStep (PutSubscription user tree path) old new = (mid : Trees) × Removes old mid 12 (IsSubOf user tree path) × Adds mid new 12 (sub_row user tree path)
MakesStep (RemoveSubscription user tree path) old new = Removes old new 12 (IsSubOf user tree path)
MakesStep (Below tree path steps) old new = (mailbox : ℤ) × IsIdOf old tree path mailbox × MakesBelowAll mailbox steps old new
MakesStep AllowGaps old new = AllowsGaps old new

abbrev pub MakesSteps : List Step → (old new : Trees) → Type 0
MakesSteps [] old new = new ≡ old
MakesSteps (s ∷ steps) old new = (mid : Trees) × MakesStep s old mid × MakesSteps steps mid new

step_made : (c : RowChange) (old new : Trees) → Makes c old new → MakesStep (step_of c) old new
step_made (change.AddMailbox key validity) old new h = h
step_made (change.MoveMailbox key to validity) old new h = h
step_made (change.RemoveMailbox key) old new h = h
step_made (change.PutEpoch key greatest) old new h = h
step_made (change.PutSubscription user key) old new h = h
step_made (change.RemoveSubscription user key) old new h = h
step_made (change.Below key changes) old new (mailbox, found, made) = (mailbox, found, all_below mailbox changes.items old new made)
step_made change.AllowGaps old new h = h

pub all_made : (changes : List RowChange) (old new : Trees) → MakesAll changes old new → MakesSteps (steps_in changes) old new
all_made [] old new h = h
all_made (c ∷ changes) old new (mid, first, rest) = (mid, step_made c old mid first, all_made changes mid new rest)

pub steps_split : (first rest : List Step) (old new : Trees) → MakesSteps (first ++ rest) old new
    → (mid : Trees) × MakesSteps first old mid × MakesSteps rest mid new
steps_split [] rest old new h = (old, refl, h)
steps_split (s ∷ first) rest old new (mid, one, more) =
    let (end, a, b) = steps_split first rest mid new more in
    (end, (mid, one, a), b)
