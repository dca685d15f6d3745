-- A world with the room that it has for more.
use Rattle.std.specs.Prelude.{ℕ, Option, Some, None, refl}
use Rattle.std.specs.Coded.{Coded, coded_ℕ, coded×, code_by}
use Rattle.std.specs.FinMap as map
use base.Stored.{coded_unit}
use Rattle.imap_name_map.specs.Rows as name
use Rattle.imap_user_map.specs.Rows as user
use Rattle.imap_world.specs.contracts.mailbox_entry.MailboxEntry as entry
use Rattle.imap_world.specs.declared.mailbox_entry.MailboxEntry.{MailboxEntry}
use Rattle.imap_world.specs.Mailbox.{plain_all}
use Rattle.imap_world.specs.Effects.{if_filled}
use Rattle.imap_user_map.specs.Finite.{keep}
use Rattle.imap_user_map.specs.Rows.{Users}
use Rattle.imap_world.specs.World.{World, NameSet}

-- a user's set may be empty: it keeps its room
abbrev pub Subscriptions : Type 0
Subscriptions = user.Rows (name.Rows (Unit {0}))

pub record Stored : Type 0 where
  pub mailboxes : name.Rows MailboxEntry
  pub epochs : name.Rows ℕ
  pub subscriptions : Subscriptions

abbrev pub stored_code : Coded Stored
stored_code =
    code_by (name.Rows MailboxEntry × (name.Rows ℕ × Subscriptions))
    (coded× (name.rows_code entry.the_row.coded)
    (coded× (name.rows_code coded_ℕ) (user.rows_code (name.rows_code coded_unit))))
    (λ s. (s.mailboxes, (s.epochs, s.subscriptions)))
    (λ p. record { mailboxes = p.0; epochs = p.1.0; subscriptions = p.1.1 }) (λ _. refl)

-- the sets of users, but for those that are empty
abbrev pub filled_sets : Subscriptions → Users NameSet
filled_sets subscriptions = keep (λ user rows. if_filled rows.map) subscriptions.map

-- the world, without its room
abbrev pub world_of : Stored → World
world_of stored = record {
  mailboxes = plain_all stored.mailboxes.map;
  epochs = stored.epochs.map;
  subscriptions = filled_sets stored.subscriptions;
}

-- the set of a user, without its room
abbrev pub names_in : Option (name.Rows (Unit {0})) → NameSet
names_in None = map.empty
names_in (Some rows) = rows.map
