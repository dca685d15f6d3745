-- A mailbox that is made, with its name. It has no messages.
use Rattle.std.specs.Prelude.{ℕ, refl}
use Rattle.std.specs.Coded.{Coded, coded_ℕ, coded×, code_by}
use Rattle.imap_names.specs.Name.{Name}
use Rattle.imap_rights.specs.Acl.{AclMap, acl_code}
use Rattle.imap_world.specs.Mailbox.{Mailbox, new_mailbox}
use Rattle.imap_world.specs.World.{name_code}

pub record NewMailbox : Type 0 where
  pub name : Name
  pub validity : ℕ
  pub acl : AclMap

abbrev pub mailbox_in : NewMailbox → Mailbox
mailbox_in row = new_mailbox row.validity row.acl

abbrev pub new_mailbox_code : Coded NewMailbox
new_mailbox_code =
    code_by (Name × (ℕ × AclMap)) (coded× name_code (coded× coded_ℕ acl_code))
    (λ r. (r.name, (r.validity, r.acl)))
    (λ p. record { name = p.0; validity = p.1.0; acl = p.1.1 }) (λ _. refl)
