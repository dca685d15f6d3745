-- A session in step with its mailbox, before and after a change that its user asked for.
use Rattle.std.specs.Prelude.{◌≡◌, ℕ, List, Some}
use Rattle.imap_mailbox.specs.Shown.{Content}
use Rattle.imap_names.specs.Name.{Name}
use Rattle.imap_session.specs.InStep.{IsInStep}
use Rattle.imap_upcoming.specs.Asked.{IsAskedBy}
use Rattle.imap_view.specs.declared.readable.Readable.{Readable}
use Rattle.imap_view.specs.Readable.{readable_in}
use Rattle.imap_view.specs.View.{view_of}
use Rattle.imap_world.specs.declared.change.Write.{Write}
use Rattle.imap_world.specs.declared.site.Site.{Site}
use Rattle.imap_world.specs.Effects.{after_writes}
use Rattle.imap_world.specs.Kept.{AreKept, IsSound}
use Rattle.imap_world.specs.World.{World}

-- The session knows the UIDs `known`, and was told all up to the mod-sequence `up_to` of what its user may read, but
-- for messages that are expunged.
abbrev pub IsInStepWith : (up_to : ℕ) → (known : List ℕ) → Readable → Type 0
IsInStepWith up_to known r =
    (c : Content) × (c.next ≡ r.next_uid) × IsInStep up_to r.highest known r.rows c

-- A mailbox that its user may read before and after the change keeps its UIDVALIDITY, and a session that is
-- in step with it before is so after it, up to the same mod-sequence.
abbrev pub OwnChangesKeepInStep : Type 0
OwnChangesKeepInStep =
    (site : Site) (user : List ℕ) (world : World) (change : List Write) (name : Name)
    (up_to : ℕ) (known : List ℕ) (before after : Readable)
    → IsSound world → AreKept world.mailboxes → IsAskedBy site user world change
    → readable_in (view_of site user world) name ≡ Some before
    → readable_in (view_of site user (after_writes change world)) name ≡ Some after
    → IsInStepWith up_to known before
    → (before.validity ≡ after.validity) × IsInStepWith up_to known after
