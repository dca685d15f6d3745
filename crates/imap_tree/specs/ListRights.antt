-- LISTRIGHTS (RFC 4314, section 3.4).
use Rattle.std.specs.Prelude.{ℕ, List, [], ◌∷◌, Option, Some, None, bytes_eq, if◌then◌else◌}
use Rattle.imap_answer.specs.Answer.{Answer, done_after, refusal}
use Rattle.imap_answer.specs.Name.{if_named}
use Rattle.imap_names.specs.Name.{Name}
use Rattle.imap_names.specs.Showing.{shown}
use Rattle.imap_print.specs.declared.response.Response.{Response}
use Rattle.imap_print.specs.declared.response.Response.TheVariants as response
use Rattle.imap_print.specs.declared.response.Refusal.TheVariants.{Cannot}
use Rattle.imap_rights.specs.Identifier.{identifier_read}
use Rattle.imap_rights.specs.Rights.{administer, has_any}
use Rattle.imap_view.specs.Seen.{owner_of}
use Rattle.imap_view.specs.View.{View, rights_in}
use Rattle.imap_answer.specs.Access.{missing_right_refusal}

-- an owner always has `l` and `a`; any other identifier may be given each right or none
abbrev pub list_rights_line : View → Name → (identifier : List ℕ) → Response
list_rights_line view name identifier =
    let is_owner = bytes_eq identifier (owner_of view.site name) in
    response.ListRights (shown view.user name) identifier is_owner

abbrev pub list_rights_by : View → (tag : List ℕ) → Name → Option (List ℕ) → Answer
list_rights_by view tag name None = refusal tag Cannot
list_rights_by view tag name (Some identifier) = done_after (list_rights_line view name identifier ∷ []) tag

abbrev pub list_rights_of_name : View → (tag identifier : List ℕ) → Name → Answer
list_rights_of_name view tag identifier name =
    if has_any (rights_in view name) administer then list_rights_by view tag name (identifier_read identifier)
    else refusal tag (missing_right_refusal (rights_in view name))

abbrev pub list_rights_answer : View → (tag mailbox identifier : List ℕ) → Answer
list_rights_answer view tag mailbox identifier =
    if_named view tag mailbox (list_rights_of_name view tag identifier)
