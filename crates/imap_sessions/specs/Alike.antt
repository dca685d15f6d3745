-- Sessions that are alike. They differ at most in the mod-sequence up to which each was told all of its mailbox, and
-- know the same messages by it (RFC 7162, section 3.1.2.1, HIGHESTMODSEQ).
use Rattle.std.specs.Prelude.{◌≡◌, ◌⊎◌, ℕ, ◌≤◌, List, Option, Some, None}
use Rattle.std.specs.FinMap as map
use Rattle.std.specs.List.{AllByRecursion}
use Rattle.imap_mailbox.specs.Brought.{highest_in}
use Rattle.imap_mailbox.specs.Shown.{Content, content_of}
use Rattle.imap_session.specs.Compared.{is_known}
use Rattle.imap_session.specs.State.{Selection, SessionState}
use Rattle.imap_world.specs.Mailbox.{Mailbox}
use Rattle.imap_world.specs.World.{World, epoch}
use Rattle.imap_sessions.specs.Sessions.{Own}

-- Each message of the mailbox is known up to both mod-sequences, or up to neither. HIGHESTMODSEQ isn't below them, so
-- a message that changes later is known up to neither.
pub record KnowTheSame (up_to other : ℕ) (c : Content) : Type 0 where
  pub before : up_to ≤ highest_in c
  pub other_before : other ≤ highest_in c
  pub rows : AllByRecursion (λ r. is_known up_to r ≡ is_known other r) c.rows

-- A UIDVALIDITY that was used is selected. While the mailbox of the name has it, the session knows of its messages
-- what it would know if it had been told all up to the other mod-sequence.
pub record KnowsAsUpTo (world : World) (user : List ℕ) (other : ℕ) (s : Selection) : Type 0 where
  pub used : s.validity ≤ epoch world.epochs s.name
  pub known : (mailbox : Mailbox)
      → map.get world.mailboxes s.name ≡ Some mailbox → mailbox.validity ≡ s.validity
      → KnowTheSame s.up_to other (content_of user mailbox.messages)

-- as if it had been told all up to another mod-sequence
abbrev pub with_up_to : ℕ → Selection → Selection
with_up_to up_to s = record s { up_to = up_to }

-- Nothing but the mod-sequences may differ, and these only if the session knows the same by both.
pub record AreSelectionsAlike (world : World) (user : List ℕ) (s t : Selection) : Type 0 where
  pub same : t ≡ with_up_to t.up_to s
  pub known : (s.up_to ≡ t.up_to) ⊎ KnowsAsUpTo world user t.up_to s

-- neither is there, or both are and are related
abbrev pub AreBoth : {A : Type 0} → (A → A → Type 0) → Option A → Option A → Type 0
AreBoth related None None = Unit {0}
AreBoth related None (Some y) = ⊥
AreBoth related (Some x) None = ⊥
AreBoth related (Some x) (Some y) = related x y

pub record AreSessionsAlike (world : World) (user : List ℕ) (own other : SessionState) : Type 0 where
  pub selected : AreBoth (AreSelectionsAlike world user) own.selected other.selected
  pub enabled : own.enabled ≡ other.enabled
  pub idle : own.idle ≡ other.idle

-- the sessions of a user: the same numbers are open
pub record AreOwnAlike (world : World) (user : List ℕ) (own other : Own) : Type 0 where
  pub at : (number : ℕ) → AreBoth (AreSessionsAlike world user) (map.get own number) (map.get other number)
