-- What a host starts with: the mailboxes of its world, an INBOX for each user, and no open session. To a user
-- it makes no difference what is hidden from the user.
use Rattle.std.specs.Prelude.{◌≡◌, ◌≢◌, ℕ, ◌+◌, Bool, true, ◌&&◌, List, ◌∷◌, Some, bytes_eq}
use Rattle.std.specs.List.{list_all, list_any}
use Rattle.std.specs.FinMap as map
use Rattle.imap_names.specs.Name.{Name}
use Rattle.imap_names.specs.UserName.{is_user_name}
use Rattle.imap_rights.specs.Acl.{owner_acl}
use Rattle.imap_rights.specs.Groups.{Members}
use Rattle.imap_world.specs.declared.site.Limits.{Limits}
use Rattle.imap_world.specs.declared.site.Site.{Site}
use Rattle.imap_view.specs.After.{DifferInHidden}
use Rattle.imap_world.specs.Kept.{AreKept}
use Rattle.imap_world.specs.Mailbox.{Mailbox, new_mailbox}
use Rattle.imap_world.specs.World.{World, epoch, inbox}
use Rattle.imap_core.specs.Machine.{State}
use Rattle.imap_core.specs.Opening.{needs_inbox, state_at_start}
use Rattle.imap_sessions.specs.Sessions.{Own}
use Rattle.imap_core.specs.Trace.{Alike}

abbrev pub is_one_of : List (List ℕ) → List ℕ → Bool
is_one_of users user = list_any (bytes_eq user) users

-- one of the users, without an INBOX, and with a UIDVALIDITY left for one
abbrev pub gets_inbox : World → List (List ℕ) → List ℕ → Bool
gets_inbox world users user = is_one_of users user && needs_inbox world user

-- it has the next UIDVALIDITY (RFC 9051, section 2.3.1.1) and no messages, and is its owner's alone
abbrev pub new_inbox : World → List ℕ → Mailbox
new_inbox world user = new_mailbox (epoch world.epochs (inbox user) + 1) (owner_acl user)

-- The state has a new INBOX for each user who gets one, and counts its UIDVALIDITY as used. All other
-- mailboxes, also an INBOX that is there, all other used UIDVALIDITYs and the subscriptions are the
-- world's. The state's site is the one that is asked for. It knows the users and nobody else, and none
-- of them has an open session.
pub record IsStart (world : World) (site : Site) (users : List (List ℕ)) (start : State) : Type 0 where
  pub same_site : start.site ≡ site
  pub new_inboxes : (user : List ℕ) → gets_inbox world users user ≡ true
      → map.get start.world.mailboxes (inbox user) ≡ Some (new_inbox world user)
  pub other_mailboxes : (name : Name)
      → ((user : List ℕ) → gets_inbox world users user ≡ true → name ≢ inbox user)
      → map.get start.world.mailboxes name ≡ map.get world.mailboxes name
  pub new_validities : (user : List ℕ) → gets_inbox world users user ≡ true
      → epoch start.world.epochs (inbox user) ≡ epoch world.epochs (inbox user) + 1
  pub other_validities : (name : Name)
      → ((user : List ℕ) → gets_inbox world users user ≡ true → name ≢ inbox user)
      → epoch start.world.epochs name ≡ epoch world.epochs name
  pub subscriptions : start.world.subscriptions ≡ world.subscriptions
  pub accounts : (user : List ℕ) → map.contains_key start.accounts user ≡ is_one_of users user
  pub sessions : (user : List ℕ) (own : Own) → map.get start.accounts user ≡ Some own → own ≡ map.empty

-- The administrator is a user like the others.
abbrev pub StartsWithInboxes : Type 0
StartsWithInboxes =
    (world : World) (administrator : List ℕ) (users : List (List ℕ)) (groups : Members) (limits : Limits) →
    let site : Site = record { administrator = administrator; limits = limits; groups = groups } in
    IsStart world site (administrator ∷ users) (state_at_start world administrator users groups limits)

-- Two stores that differ for a user in hidden mailboxes alone, and in used validities of names of which the user
-- may not know, start machines that are alike to the user.
abbrev pub StartsAreAlike : Type 0
StartsAreAlike =
    (administrator : List ℕ) (users : List (List ℕ)) (groups : Members) (limits : Limits)
    (user : List ℕ) (one other : World) →
    let site : Site = record { administrator = administrator; limits = limits; groups = groups } in
    list_all is_user_name (administrator ∷ users) ≡ true
    → AreKept one.mailboxes → AreKept other.mailboxes → DifferInHidden site user one other
    → Alike user (state_at_start one administrator users groups limits)
    (state_at_start other administrator users groups limits)
