-- Replies with names in modified UTF-7 (RFC 3501, section 5.1.3).
use Rattle.std.specs.Prelude.{ℕ, List, chars, Option, Some, None, if◌then◌else◌}
use Rattle.std.specs.List.{list_all}
use Rattle.std.specs.Str.{is_utf8}
use Rattle.imap_print.specs.declared.response.Response.{Response}
use Rattle.imap_print.specs.declared.response.Response.TheVariants as response
use Rattle.imap_utf7.specs.Laws.{is_plain}
use Rattle.imap_utf7.specs.Spelling.{encoded}

-- The spelling of a name, if it is another one than the name. The names of mailboxes are UTF-8.
abbrev pub other_shown : (name : List ℕ) → Option (List ℕ)
other_shown name =
    if list_all is_plain name then None else (if is_utf8 name then Some (encoded (chars name)) else None)

-- the name in a reply
abbrev pub name_in : Response → Option (List ℕ)
name_in (response.List attributes mailbox) = Some mailbox
name_in (response.Status mailbox values) = Some mailbox
name_in (response.Acl mailbox entries) = Some mailbox
name_in (response.MyRights mailbox rights) = Some mailbox
name_in (response.ListRights mailbox identifier owner) = Some mailbox
name_in _ = None

-- the reply with another name
abbrev pub with_name : (name : List ℕ) → Response → Response
with_name name (response.List attributes mailbox) = response.List attributes name
with_name name (response.Status mailbox values) = response.Status name values
with_name name (response.Acl mailbox entries) = response.Acl name entries
with_name name (response.MyRights mailbox rights) = response.MyRights name rights
with_name name (response.ListRights mailbox identifier owner) = response.ListRights name identifier owner
with_name name reply = reply

abbrev pub named_or_same : Response → (name : Option (List ℕ)) → Response
named_or_same reply (Some name) = with_name name reply
named_or_same reply None = reply

-- the reply with the spelling of its name
abbrev pub shown_with : Response → (name : List ℕ) → Response
shown_with reply name = named_or_same reply (other_shown name)

abbrev pub shown_by : Response → (name : Option (List ℕ)) → Response
shown_by reply (Some name) = shown_with reply name
shown_by reply None = reply

abbrev pub shown_reply : Response → Response
shown_reply reply = shown_by reply (name_in reply)

-- the first, if there is one
abbrev pub instead_reply : Option Response → Response → Response
instead_reply (Some other) reply = other
instead_reply None reply = reply
