-- A mailbox, apart from its name.
use Rattle.std.specs.Prelude.{◌≡◌, ℕ, Bool, true, not, List, Option, Some, None, refl}
use Rattle.std.specs.Borrow.{Bor}
use Rattle.std.specs.Coded.{Coded, coded_ℕ, coded_list, coded×, code_by}
use Rattle.std.specs.FinMap as map
use Rattle.imap_batch.specs.GoneMessageType.{the_row as gone_row}
use Rattle.imap_batch.specs.MessageType.{the_row as message_row}
use Rattle.imap_batch.specs.GoneMessage.{GoneMessage}
use Rattle.imap_batch.specs.Message.{Message}
use Rattle.imap_batch.specs.Held.{summary_in}
use Rattle.imap_batch.specs.Own.{Own, own_code}
use Rattle.imap_batch.specs.Summary.{Summary, new_summary}
use Rattle.imap_names.specs.Name.{Name}
use Rattle.imap_names.specs.Order.{Names}
use Rattle.imap_rights.specs.Acl.{AclMap, acl_code}
use Rattle.imap_user_map.specs.Finite.{keep}
use Rattle.imap_user_map.specs.Rows.{Users, users_code}
use Rattle.imap_world.specs.declared.mailbox_entry.MailboxEntry.{MailboxEntry}

-- `validity` is UIDVALIDITY (RFC 9051, section 2.3.1.1)
pub record Mailbox : Type 0 where
  pub validity : ℕ
  pub acl : AclMap
  pub messages : Summary

abbrev pub summary_code : Coded Summary
summary_code =
    code_by (List Message × (List GoneMessage × (ℕ × (ℕ × Users Own))))
    (coded× (coded_list message_row.coded) (coded× (coded_list gone_row.coded)
    (coded× coded_ℕ (coded× coded_ℕ (users_code own_code)))))
    (λ s. (s.messages, (s.gone, (s.next, (s.shared, s.own)))))
    (λ t. record {
      messages = t.0;
      gone = t.1.0;
      next = t.1.1.0;
      shared = t.1.1.1.0;
      own = t.1.1.1.1;
    }) (λ _. refl)

abbrev pub mailbox_code : Coded Mailbox
mailbox_code =
    code_by (ℕ × (AclMap × Summary)) (coded× coded_ℕ (coded× acl_code summary_code))
    (λ m. (m.validity, (m.acl, m.messages)))
    (λ p. record { validity = p.0; acl = p.1.0; messages = p.1.1 }) (λ _. refl)

-- no message, none that is gone, and no change of \Seen
abbrev pub no_messages : Summary
no_messages = new_summary map.empty

abbrev pub new_mailbox : (validity : ℕ) → AclMap → Mailbox
new_mailbox validity acl = record { validity = validity; acl = acl; messages = no_messages }

-- ---- without room

-- what an entry holds, whatever its room
abbrev pub plain : MailboxEntry → Mailbox
plain entry =
    record { validity = entry.validity; acl = entry.acl; messages = summary_in entry.messages.value }

abbrev pub plain_lent : Option (Bor MailboxEntry) → Option Mailbox
plain_lent None = None
plain_lent (Some entry) = Some (plain entry.now)

abbrev pub plain_at : Name → MailboxEntry → Option Mailbox
plain_at name entry = Some (plain entry)

abbrev pub plain_all : Names MailboxEntry → Names Mailbox
plain_all entries = keep plain_at entries

-- ---- copies

-- a copy shares the messages of the mailbox, if there is one
abbrev pub is_shared : Option MailboxEntry → Bool
is_shared None = true
is_shared (Some entry) = not entry.messages.is_own

-- a copy shares the messages of every mailbox
abbrev pub AreShared : Names MailboxEntry → Type 0
AreShared entries = (name : Name) → is_shared (map.get entries name) ≡ true
