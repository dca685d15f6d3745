-- SETACL and DELETEACL (RFC 4314, sections 3.1 and 3.2).
use Rattle.std.specs.Prelude.{ℕ, Bool, true, not, ◌==◌, List, Option, Some, None, if◌then◌else◌}
use Rattle.std.specs.Prelude.{option_and_then}
use Rattle.imap_answer.specs.Answer.{Answer, done, done_with, refusal}
use Rattle.imap_answer.specs.Name.{if_named}
use Rattle.imap_names.specs.Name.{Name}
use Rattle.imap_print.specs.declared.response.Refusal.TheVariants.{Cannot, Limit, Malformed}
use Rattle.imap_rights.specs.declared.change.RightsChange.{RightsChange}
use Rattle.imap_rights.specs.Acl.{AclMap}
use Rattle.imap_rights.specs.Effective.{entry}
use Rattle.imap_rights.specs.Change.{replacing, rights_read}
use Rattle.imap_rights.specs.Groups.{is_misnamed}
use Rattle.imap_rights.specs.Identifier.{identifier_read, subject_of}
use Rattle.imap_rights.specs.Rights.{administer, has_any, no_rights}
use Rattle.imap_view.specs.TreeAfter.{entry_after, may_set_rights}
use Rattle.imap_view.specs.View.{View, acl_in, rights_in}
use Rattle.imap_world.specs.declared.effect.Effect.TheVariants.{SetRights}
use Rattle.imap_answer.specs.Access.{missing_right_refusal}

-- whether the identifier's rights in the list stay as they are
abbrev pub keeps_entry : (identifier : List ℕ) → RightsChange → Option AclMap → Bool
keeps_entry identifier change None = true
keeps_entry identifier change (Some acl) = entry_after acl identifier change == entry acl identifier

-- what is no identifier can have no entry, and a list may be too full for one. Rights that stay are not
-- written
abbrev pub set_rights_by : View → (tag : List ℕ) → Name → RightsChange → Option (List ℕ) → Answer
set_rights_by view tag name change None = refusal tag Cannot
set_rights_by view tag name change (Some identifier) =
    if not (may_set_rights view name identifier change) then refusal tag Limit
    else if keeps_entry identifier change (acl_in view name) then done tag
    else done_with tag (SetRights name identifier change)

-- by what the octets are read as
abbrev pub set_rights_of_name :
    View → (tag : List ℕ) → (identifier : Option (List ℕ)) → RightsChange → Name → Answer
set_rights_of_name view tag identifier change name =
    if has_any (rights_in view name) administer then set_rights_by view tag name change identifier
    else refusal tag (missing_right_refusal (rights_in view name))

abbrev pub set_rights_answer :
    View → (tag mailbox : List ℕ) → (identifier : Option (List ℕ)) → RightsChange → Answer
set_rights_answer view tag mailbox identifier change =
    if_named view tag mailbox (set_rights_of_name view tag identifier change)

abbrev pub unless_misnamed : List ℕ → Option (List ℕ)
unless_misnamed identifier = if is_misnamed (subject_of identifier) then None else Some identifier

-- the identifier that octets spell, if an entry may be set for it: not `group:` before what names no group
abbrev pub grantee_read : List ℕ → Option (List ℕ)
grantee_read octets = option_and_then unless_misnamed (identifier_read octets)

-- by the rights that a text asks for, if each of its letters is a right
abbrev pub set_acl_by : View → (tag mailbox identifier : List ℕ) → Option RightsChange → Answer
set_acl_by view tag mailbox identifier None = refusal tag Malformed
set_acl_by view tag mailbox identifier (Some change) =
    set_rights_answer view tag mailbox (grantee_read identifier) change

abbrev pub set_acl_answer : View → (tag mailbox identifier rights : List ℕ) → Answer
set_acl_answer view tag mailbox identifier rights =
    set_acl_by view tag mailbox identifier (rights_read rights)

-- an entry that stands is taken away, whatever its identifier names
abbrev pub delete_acl_answer : View → (tag mailbox identifier : List ℕ) → Answer
delete_acl_answer view tag mailbox identifier =
    set_rights_answer view tag mailbox (identifier_read identifier) (replacing no_rights)
