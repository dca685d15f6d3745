-- The mailbox that the session has selected (RFC 9051, section 3.3).
use Rattle.std.specs.Prelude.{Bool, false, Option, Some, None}
use Rattle.imap_names.specs.Name.{Name}
use Rattle.imap_names.specs.Order.{is_within}

-- it is the mailbox of this name, or one below it
abbrev pub is_selected : (selected : Option Name) → Name → Bool
is_selected None name = false
is_selected (Some selected) name = is_within name selected
