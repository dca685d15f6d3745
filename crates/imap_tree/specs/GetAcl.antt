-- GETACL (RFC 4314, section 3.3).
use Rattle.std.specs.Prelude.{ℕ, List, [], ◌∷◌, Option, Some, None, map as map_list}
use Rattle.std.specs.FinMap as map
use Rattle.std.specs.List.{AllByRecursion}
use Rattle.imap_answer.specs.Answer.{Answer, done_after, refusal}
use Rattle.imap_answer.specs.Name.{if_named}
use Rattle.imap_names.specs.Name.{Name}
use Rattle.imap_names.specs.Showing.{shown}
use Rattle.imap_print.specs.declared.acl.AclEntry.{AclEntry}
use Rattle.imap_print.specs.declared.response.Response.{Response}
use Rattle.imap_print.specs.declared.response.Response.TheVariants as response
use Rattle.imap_print.specs.Lines.{IsPlain}
use Rattle.imap_rights.specs.Acl.{AclMap}
use Rattle.imap_view.specs.View.{View, acl_in, rights_in}
use Rattle.imap_answer.specs.Access.{missing_right_refusal}

abbrev pub acl_entry : List ℕ × ℕ → AclEntry
acl_entry entry = record { identifier = entry.0; rights = record { 0 = entry.1 } }

-- the whole list, in the byte order of identifiers
abbrev pub acl_line : (user : List ℕ) → Name → AclMap → Response
acl_line user name acl = response.Acl (shown user name) (map_list acl_entry (map.entries acl))

-- no identifier has CR or LF
abbrev pub ArePlain : List AclEntry → Type 0
ArePlain entries = AllByRecursion (λ entry. IsPlain entry.identifier) entries

-- the list is shown to a user who holds `a`
abbrev pub get_acl_by : View → (tag : List ℕ) → Name → Option AclMap → Answer
get_acl_by view tag name None = refusal tag (missing_right_refusal (rights_in view name))
get_acl_by view tag name (Some acl) = done_after (acl_line view.user name acl ∷ []) tag

abbrev pub get_acl_of_name : View → (tag : List ℕ) → Name → Answer
get_acl_of_name view tag name = get_acl_by view tag name (acl_in view name)

abbrev pub get_acl_answer : View → (tag mailbox : List ℕ) → Answer
get_acl_answer view tag mailbox = if_named view tag mailbox (get_acl_of_name view tag)
