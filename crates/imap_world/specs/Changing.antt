-- Changes of a world that may be refused.
use Rattle.std.specs.Prelude.{◌≡◌, ◌⊎◌, ℕ, List, Option, Some, None, Result, Ok, Err, if◌then◌else◌}
use Rattle.std.specs.FinMap as map
use Rattle.imap_names.specs.Name.{Name}
use Rattle.imap_names.specs.Order.{Names}
use Rattle.imap_rights.specs.Acl.{AclMap}
use Rattle.imap_rights.specs.declared.change.RightsChange.{RightsChange}
use Rattle.imap_world.specs.Mailbox.{Mailbox}
use Rattle.imap_world.specs.declared.error.WorldError.{WorldError}
use Rattle.imap_world.specs.declared.error.WorldError.TheVariants.{NoSuch, Taken, Memory}
use Rattle.imap_world.specs.Kept.{superior_is_there}
use Rattle.imap_world.specs.NewMailbox.{NewMailbox}
use Rattle.imap_world.specs.World.{World}
pub use Rattle.imap_world.specs.Tree.{acl_with_rights, with_row, new_row}

-- The call returned the value that is meant, or failed with the error that is meant. Memory may run out
-- only if no error is meant.
abbrev pub Answers : {A : Type 0} → Result A WorldError → Result A WorldError → Type 0
Answers (Ok value) (Ok wanted) = value ≡ wanted
Answers (Ok value) (Err refusal) = ⊥
Answers (Err error) (Ok wanted) = error ≡ Memory
Answers (Err error) (Err refusal) = error ≡ refusal

-- The same, but memory may run out before an error is found.
abbrev pub AnswersOrMemory : {A : Type 0} → Result A WorldError → Result A WorldError → Type 0
AnswersOrMemory (Ok value) (Ok wanted) = value ≡ wanted
AnswersOrMemory (Ok value) (Err refusal) = ⊥
AnswersOrMemory (Err error) (Ok wanted) = error ≡ Memory
AnswersOrMemory (Err error) (Err refusal) = (error ≡ refusal) ⊎ (error ≡ Memory)

-- The call made the change that is meant, or failed with the error that is meant. Memory may run out only
-- if no error is meant.
abbrev pub Changes : {A : Type 0} → Result (Unit {0}) WorldError → A → Result A WorldError → Type 0
Changes (Ok done) new (Ok wanted) = new ≡ wanted
Changes (Ok done) new (Err refusal) = ⊥
Changes (Err error) new (Ok wanted) = error ≡ Memory
Changes (Err error) new (Err refusal) = error ≡ refusal

abbrev pub with_new_row : World → Result NewMailbox WorldError → Result World WorldError
with_new_row world (Err error) = Err error
with_new_row world (Ok row) = Ok (with_row world row)

-- with the mailbox, unless its name is in use, nothing is right above it, or no UIDVALIDITY is left
abbrev pub world_with_placed : World → Name → AclMap → Result World WorldError
world_with_placed world name acl =
    if map.contains_key world.mailboxes name then Err Taken
    else if superior_is_there world.mailboxes name
    then with_new_row world (new_row world.epochs name acl)
    else Err NoSuch

abbrev pub mailboxes_with_acl :
    Names Mailbox → Name → Mailbox → Result AclMap WorldError
    → Result (Names Mailbox) WorldError
mailboxes_with_acl mailboxes name mailbox (Err error) = Err error
mailboxes_with_acl mailboxes name mailbox (Ok acl) =
    Ok (map.insert mailboxes name (record mailbox { acl = acl }))

-- the list of the mailbox, if it is there, with an identifier's rights changed
abbrev pub list_with_rights : Option Mailbox → List ℕ → RightsChange → Result AclMap WorldError
list_with_rights None identifier change = Err NoSuch
list_with_rights (Some mailbox) identifier change = acl_with_rights mailbox.acl identifier change

abbrev pub mailboxes_with_rights_at :
    Names Mailbox → Name → List ℕ → RightsChange → Option Mailbox
    → Result (Names Mailbox) WorldError
mailboxes_with_rights_at mailboxes name identifier change None = Err NoSuch
mailboxes_with_rights_at mailboxes name identifier change (Some mailbox) =
    mailboxes_with_acl mailboxes name mailbox (acl_with_rights mailbox.acl identifier change)

-- the mailboxes, with an identifier's rights on one of them changed
abbrev pub mailboxes_with_rights :
    Names Mailbox → Name → List ℕ → RightsChange → Result (Names Mailbox) WorldError
mailboxes_with_rights mailboxes name identifier change =
    mailboxes_with_rights_at mailboxes name identifier change (map.get mailboxes name)

abbrev pub with_mailboxes : World → Result (Names Mailbox) WorldError → Result World WorldError
with_mailboxes world (Err error) = Err error
with_mailboxes world (Ok mailboxes) = Ok (record world { mailboxes = mailboxes })

abbrev pub world_with_rights : World → Name → List ℕ → RightsChange → Result World WorldError
world_with_rights world name identifier change =
    with_mailboxes world (mailboxes_with_rights world.mailboxes name identifier change)
