-- The mailboxes of all users, and what outlives them: used validities and subscriptions.
use Rattle.std.specs.Prelude.{ℕ, List, [], ◌∷◌, codes, Option, Some, None, refl}
use Rattle.std.specs.FinMap as map
use Rattle.std.specs.Coded.{Coded, coded_ℕ, coded_list, coded×, code_by}
use base.Stored.{coded_unit}
use Rattle.imap_names.specs.Name.{Name, name_of}
use Rattle.imap_names.specs.Order.{Names}
use Rattle.imap_name_map.specs.Numbers.{greatest_number, number_of}
use Rattle.imap_user_map.specs.Rows.{Users, users_code}
use Rattle.imap_world.specs.Mailbox.{Mailbox, mailbox_code}

abbrev pub NameSet : Type 0
NameSet = Names (Unit {0})

-- by name, the mailboxes, and the greatest UIDVALIDITY that was ever used; by user, the names that the user
-- subscribed to, if there are any
pub record World : Type 0 where
  pub mailboxes : Names Mailbox
  pub epochs : Names ℕ
  pub subscriptions : Users NameSet

abbrev pub name_code : Coded Name
name_code = coded_list (coded_list coded_ℕ)

abbrev pub name_set_code : Coded NameSet
name_set_code = map.code name_code coded_unit

abbrev pub world_code : Coded World
world_code =
    code_by (Names Mailbox × (Names ℕ × Users NameSet))
    (coded× (map.code name_code mailbox_code)
    (coded× (map.code name_code coded_ℕ) (users_code name_set_code)))
    (λ w. (w.mailboxes, (w.epochs, w.subscriptions)))
    (λ p. record { mailboxes = p.0; epochs = p.1.0; subscriptions = p.1.1 }) (λ _. refl)

-- the greatest UIDVALIDITY that was used under the name, and 0 if none was (RFC 9051, section 2.3.1.1)
abbrev pub epoch : Names ℕ → Name → ℕ
epoch epochs name = number_of epochs name

-- the greatest UIDVALIDITY that there is
abbrev pub max_validity : ℕ
max_validity = greatest_number

abbrev pub set_of : Option NameSet → NameSet
set_of None = map.empty
set_of (Some names) = names

abbrev pub subscribed_by : World → List ℕ → NameSet
subscribed_by world user = set_of (map.get world.subscriptions user)

abbrev pub inbox : List ℕ → Name
inbox user = name_of user (codes "INBOX" ∷ [])
