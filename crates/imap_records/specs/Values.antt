-- What holds of all values of a world and of a change, as their types keep it: so each can be read again from
-- its text.
use Rattle.std.specs.Prelude.{◌≡◌, ℕ, true, List, Option, Some, None}
use Rattle.std.specs.FinMap as map
use Rattle.std.specs.List.{AllByRecursion}
use Rattle.std.specs.Str.{is_utf8}
use Rattle.sqlite_rules.specs.Lists.{Has}
use Rattle.imap_batch.specs.declared.batch.Batch.{Batch}
use Rattle.imap_batch.specs.declared.batch.FlagUpdate.{FlagUpdate}
use Rattle.imap_batch.specs.declared.batch.NewMessage.{NewMessage}
use Rattle.imap_mailbox.specs.declared.flags.SharedFlags.{SharedFlags}
use Rattle.imap_mailbox.specs.declared.message.Message.{Message}
use Rattle.imap_mailbox.specs.Own.{own_at}
use Rattle.imap_mailbox.specs.Summary.{Summary}
use Rattle.imap_names.specs.Name.{Name}
use Rattle.imap_syntax.specs.Keywords.{AreKeywords}
use Rattle.imap_syntax.specs.Moments.{Moment}
use Rattle.imap_syntax.specs.WrittenDates.{date_time_fits}
use Rattle.imap_rights.specs.Acl.{IsAcl}
use Rattle.imap_tables.specs.Stored.{IsShort}
use Rattle.imap_world.specs.Effects.{if_filled}
use Rattle.imap_world.specs.Mailbox.{Mailbox}
use Rattle.imap_world.specs.World.{World, subscribed_by}
use Rattle.imap_world.specs.declared.change.Write.{Write}
use Rattle.imap_world.specs.declared.change.Write.TheVariants as write
use Rattle.imap_world.specs.declared.named_batch.NamedWrite.{NamedWrite}

-- ---- of a world

-- the date is one of the calendar, and the keywords are kept as keywords
pub record AreValues (d : Moment) (f : SharedFlags) : Type 0 where
  pub date : date_time_fits d ≡ true
  pub keywords : AreKeywords f.keywords

-- so of each message, each user's name is text, and UIDNEXT has 32 bits
pub record HasValues (s : Summary) : Type 0 where
  pub next : IsShort s.next
  pub messages : (m : Message) → Has s.messages m → AreValues m.date m.flags
  pub users : (user : List ℕ) (before : ℕ) → Has (own_at s.own user).befores before → is_utf8 user ≡ true

pub record MailboxHasValues (m : Mailbox) : Type 0 where
  pub validity : IsShort m.validity
  pub acl : IsAcl m.acl
  pub messages : HasValues m.messages

pub record WorldHasValues (world : World) : Type 0 where
  pub mailboxes : (name : Name) (m : Mailbox) → map.get world.mailboxes name ≡ Some m → MailboxHasValues m
  pub epochs : (name : Name) (greatest : ℕ) → map.get world.epochs name ≡ Some greatest → IsShort greatest
  pub users : (user : List ℕ) (name : Name)
      → map.contains_key (subscribed_by world user) name ≡ true → is_utf8 user ≡ true
  -- a user without subscriptions has no set
  pub filled : (user : List ℕ) → map.get world.subscriptions user ≡ if_filled (subscribed_by world user)

-- ---- of a change

abbrev pub IsNewValue : NewMessage → Type 0
IsNewValue m = AreValues m.date m.flags

abbrev pub AreNewFlags : Option SharedFlags → Type 0
AreNewFlags None = Unit {0}
AreNewFlags (Some flags) = AreKeywords flags.keywords

abbrev pub IsNewMark : FlagUpdate → Type 0
IsNewMark k = AreNewFlags k.flags

pub record BatchHasValues (b : Batch) : Type 0 where
  pub user : is_utf8 b.user ≡ true
  pub added : AllByRecursion IsNewValue b.added
  pub marks : AllByRecursion IsNewMark b.marks

abbrev pub OtherHasValues : Option NamedWrite → Type 0
OtherHasValues None = Unit {0}
OtherHasValues (Some w) = BatchHasValues w.write.batch

abbrev pub WriteHasValues : Write → Type 0
WriteHasValues (write.Put row) = IsShort row.validity × IsAcl row.acl
WriteHasValues (write.SetAcl name acl) = IsAcl acl
WriteHasValues (write.Remove name) = Unit {0}
WriteHasValues (write.Move old new arrivals) = AllByRecursion (λ a. IsShort a.1) arrivals
WriteHasValues (write.Messages part other) = BatchHasValues part.write.batch × OtherHasValues other
WriteHasValues (write.Subscribe user name) = is_utf8 user ≡ true
WriteHasValues (write.Unsubscribe user name) = Unit {0}
