-- What the view of a user becomes when the user changes messages (RFC 9051, sections 6.3.12 and 6.4).
use Rattle.std.specs.Prelude.{◌≡◌, ◌≢◌, ℕ, false, List, [], ◌∷◌, Option, Some, None, option_map, Ok}
use Rattle.std.specs.FinMap as map
use Rattle.imap_world.specs.BatchLaws.{MarksOwnSeen}
use Rattle.imap_world.specs.BatchSeen.{IsPossible, batch_seen}
use Rattle.imap_world.specs.BatchType.{Batch}
use Rattle.imap_names.specs.Name.{Name}
use Rattle.imap_names.specs.Order.{Names}
use Rattle.imap_world.specs.declared.change.Write.TheVariants as write
use Rattle.imap_world.specs.declared.effect.Effect.TheVariants as effect
use Rattle.imap_world.specs.declared.named_batch.NamedBatch.{NamedBatch}
use Rattle.imap_world.specs.declared.named_batch.NamedWrite.{NamedWrite}
use Rattle.imap_world.specs.declared.site.Site.{Site}
use Rattle.imap_world.specs.Effects.{writes_for}
use Rattle.imap_world.specs.Kept.{AreKept}
use Rattle.imap_world.specs.Messages.{is_same_name, with_messages}
use Rattle.imap_world.specs.World.{World}
use Rattle.imap_view.specs.Seen.{Seen}
use Rattle.imap_view.specs.TreeAfter.{put_option}
use Rattle.imap_view.specs.View.{View, view_of}

-- ---- what is seen

-- of a mailbox after a batch of the user's own. Rights, list and UIDVALIDITY stay
abbrev pub seen_batched : Site → Batch → Seen → Seen
seen_batched site batch seen =
    record seen { messages = batch_seen site.limits.max_messages batch seen.messages }

abbrev pub with_batch_seen : Site → NamedBatch → Names Seen → Names Seen
with_batch_seen site part seen =
    put_option seen part.name (option_map (seen_batched site part.batch) (map.get seen part.name))

abbrev pub with_batches_seen : Site → NamedBatch → Option NamedBatch → Names Seen → Names Seen
with_batches_seen site part None seen = with_batch_seen site part seen
with_batches_seen site part (Some other) seen = with_batch_seen site other (with_batch_seen site part seen)

abbrev pub view_with_batches : View → NamedBatch → Option NamedBatch → View
view_with_batches view part other =
    record view { seen = with_batches_seen view.site part other view.seen }

-- ---- what the user may ask for

-- the mailbox is seen, and what is asked of it is possible by what is seen
abbrev pub IsPossibleAt : Batch → Option Seen → Type 0
IsPossibleAt batch None = ⊥
IsPossibleAt batch (Some seen) = IsPossible batch seen.messages

pub record MayAskOf (view : View) (part : NamedBatch) : Type 0 where
  pub own : part.batch.user ≡ view.user
  pub possible : IsPossibleAt part.batch (map.get view.seen part.name)

abbrev pub MayAskOfOther : View → Name → Option NamedBatch → Type 0
MayAskOfOther view name None = Unit {0}
MayAskOfOther view name (Some other) = (is_same_name other.name name ≡ false) × MayAskOf view other

-- both batches are the user's own, of different mailboxes
abbrev pub MayAskOfBoth : View → NamedBatch → Option NamedBatch → Type 0
MayAskOfBoth view part other = MayAskOf view part × MayAskOfOther view part.name other

-- Values are found for it, and the view after them is as said.
pub record IsMessageChange
    (site : Site) (user : List ℕ) (world : World) (part : NamedBatch) (other : Option NamedBatch)
    : Type 0 where
  pub first : NamedWrite
  pub second : Option NamedWrite
  pub found : writes_for (effect.Messages part other) world ≡ Ok (write.Messages first second ∷ [])
  pub seen : view_of site user (with_messages world first second)
      ≡ view_with_batches (view_of site user world) part other

-- Whether the user may change messages, and the view after it, are found from the view before alone.
abbrev pub ChangingMessagesIsSeen : Type 0
ChangingMessagesIsSeen =
    (site : Site) (user : List ℕ) (world : World) (part : NamedBatch) (other : Option NamedBatch)
    → AreKept world.mailboxes → MayAskOfBoth (view_of site user world) part other
    → IsMessageChange site user world part other

-- A batch of another that changes only its user's \Seen shows nothing.
abbrev pub AnothersSeenIsHidden : Type 0
AnothersSeenIsHidden =
    (site : Site) (user : List ℕ) (world : World) (w : NamedWrite)
    → user ≢ w.write.batch.user → MarksOwnSeen w.write.batch
    → view_of site user (with_messages world w None) ≡ view_of site user world
