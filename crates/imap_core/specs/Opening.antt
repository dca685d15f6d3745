-- What is made when a host starts.
use Rattle.std.specs.Prelude.{ℕ, Bool, not, ◌&&◌, nat_lt, List, [], ◌∷◌, ◌++◌, if◌then◌else◌}
use Rattle.std.specs.FinMap as map
use Rattle.imap_rights.specs.Groups.{Members}
use Rattle.imap_world.specs.declared.effect.Effect.{Effect}
use Rattle.imap_world.specs.declared.effect.Effect.TheVariants.{CreateInbox}
use Rattle.imap_world.specs.declared.site.Limits.{Limits}
use Rattle.imap_world.specs.Effects.{after_all}
use Rattle.imap_world.specs.World.{World, epoch, inbox, max_validity}
use Rattle.imap_core.specs.declared.opening.Opening.{Opening}
use Rattle.imap_sessions.specs.Accounts.{Accounts, accounts_of}
use Rattle.imap_core.specs.Machine.{State}

-- the users who are known so far, and the INBOXes that are to be made for them
pub record Admission : Type 0 where
  pub accounts : Accounts
  pub effects : List Effect

abbrev pub nobody : Admission
nobody = record { accounts = map.empty; effects = [] }

-- without an INBOX, and with a UIDVALIDITY left for one
abbrev pub needs_inbox : World → List ℕ → Bool
needs_inbox world user =
    not (map.contains_key world.mailboxes (inbox user))
    && nat_lt (epoch world.epochs (inbox user)) max_validity

-- each user has an INBOX (RFC 9051, section 5.1)
abbrev pub inbox_for : World → List ℕ → List Effect
inbox_for world user = if needs_inbox world user then CreateInbox user ∷ [] else []

-- a user may be named twice
abbrev pub with_user : World → List ℕ → Admission → Admission
with_user world user so_far =
    if map.contains_key so_far.accounts user then so_far
    else record {
      accounts = map.insert so_far.accounts user map.empty;
      effects = so_far.effects ++ inbox_for world user;
    }

abbrev pub with_users : World → List (List ℕ) → Admission → Admission
with_users world [] so_far = so_far
with_users world (user ∷ users) so_far = with_users world users (with_user world user so_far)

-- the administrator is a user like the others
abbrev pub admission : World → (administrator : List ℕ) → (users : List (List ℕ)) → Admission
admission world administrator users = with_users world (administrator ∷ users) nobody

abbrev pub state_at_start :
    World → (administrator : List ℕ) → (users : List (List ℕ)) → Members → Limits → State
state_at_start world administrator users groups limits = record {
  site = record { administrator = administrator; limits = limits; groups = groups };
  world = after_all (admission world administrator users).effects world;
  accounts = (admission world administrator users).accounts;
}

-- what the code has found so far
abbrev pub admission_of : Opening → Admission
admission_of opening =
    record { accounts = accounts_of opening.accounts.map; effects = opening.effects.items }
