-- When sessions are alike that were told all up to other mod-sequences (RFC 7162, section 3.1.2.1, HIGHESTMODSEQ).
use Rattle.std.specs.Prelude.{◌≡◌, ◌↔◌, ℕ, List, Some}
use Rattle.std.specs.FinMap as map
use Rattle.std.specs.List.{AllByRecursion}
use Rattle.imap_answer.specs.Answer.{nothing_enabled}
use Rattle.imap_mailbox.specs.Brought.{IsBrought, IsOrdered}
use Rattle.imap_mailbox.specs.declared.known.KnownMessage.{KnownMessage}
use Rattle.imap_mailbox.specs.Shown.{Content, content_of}
use Rattle.imap_session.specs.Compared.{is_known}
use Rattle.imap_session.specs.Select.{selected_as}
use Rattle.imap_session.specs.State.{Selection, SessionState}
use Rattle.imap_session.specs.Told.{KnowsRows}
use Rattle.imap_sessions.specs.Accounts.{accounts_with, session_at}
use Rattle.imap_sessions.specs.Alike.{AreSelectionsAlike, KnowTheSame, with_up_to}
use Rattle.imap_sessions.specs.declared.session_id.SessionId.{SessionId}
use Rattle.imap_sessions.specs.declared.sessions.SessionEffect.TheVariants as session
use Rattle.imap_sessions.specs.InStep.{IsSelectedInStep}
use Rattle.imap_sessions.specs.Notices.{mailbox_left}
use Rattle.imap_view.specs.declared.readable.Readable.{Readable}
use Rattle.imap_world.specs.Mailbox.{Mailbox}
use Rattle.imap_world.specs.World.{World}
use Rattle.imap_core.specs.InStep.{IsMachineKept}
use Rattle.imap_core.specs.Machine.{State, view_in}
use Rattle.imap_core.specs.Trace.{Alike}

-- The same is known of a mailbox up to two mod-sequences exactly if one list of messages, each as it was told, may be
-- what a session knows that was told all up to the one, and one that was told all up to the other.
abbrev pub KnownByOneList : Type 0
KnownByOneList = (up_to other : ℕ) (c : Content) → IsOrdered c
    → KnowTheSame up_to other c
    ↔ ((known : List KnownMessage) × (IsBrought up_to known c × IsBrought other known c))

-- Each message of the selected mailbox is known by the session, or not, as it would be up to the mod-sequence.
abbrev pub IsEachKnownAlike : World → (user : List ℕ) → (up_to : ℕ) → Selection → Type 0
IsEachKnownAlike world user up_to s = (mailbox : Mailbox)
    → map.get world.mailboxes s.name ≡ Some mailbox → mailbox.validity ≡ s.validity
    → AllByRecursion (λ r. is_known s.up_to r ≡ is_known up_to r) (content_of user mailbox.messages).rows

-- Sessions in step that differ in nothing but the mod-sequence are alike exactly if each message is known to both or
-- to neither.
abbrev pub SameKnowledgeIsAlike : Type 0
SameKnowledgeIsAlike = (world : World) (user : List ℕ) (up_to : ℕ) (s : Selection)
    → IsSelectedInStep world user s → IsSelectedInStep world user (with_up_to up_to s)
    → AreSelectionsAlike world user s (with_up_to up_to s) ↔ IsEachKnownAlike world user up_to s

-- the session selects its mailbox again
abbrev pub selected_again : State → SessionId → Selection → Readable → State
selected_again state who s mailbox = record {
  site = state.site;
  world = state.world;
  accounts = accounts_with state.accounts who
      (session.Select nothing_enabled (Some (selected_as s.name s.read_only mailbox)));
}

-- A session that knows the messages of its mailbox, and was told all of each, is alike to one that selects the mailbox
-- now. When it was last told so makes no difference.
abbrev pub SelectingAgainIsAlike : Type 0
SelectingAgainIsAlike =
    (state : State) (who : SessionId) (own : SessionState) (s : Selection) (mailbox : Readable)
    → IsMachineKept state.world state.accounts
    → session_at state.accounts who.user who.number ≡ Some own → own.selected ≡ Some s
    → mailbox_left (view_in state who.user) own ≡ Some mailbox → KnowsRows mailbox.rows s
    → Alike who.user state (selected_again state who s mailbox)
