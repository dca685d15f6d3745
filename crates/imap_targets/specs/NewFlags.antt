-- The flags that a user gives to a message (RFC 9051, section 2.3.2; RFC 4314, section 4).
use Rattle.std.specs.Prelude.{◌≡◌, ℕ, Bool, true, false, ◌&&◌, List, [], ◌∷◌}
use Rattle.std.specs.Prelude.{Option, Some, None, if◌then◌else◌}
use Rattle.std.specs.List.{list_any}
use Rattle.imap_mailbox.specs.declared.flags.SharedFlags.{SharedFlags}
use Rattle.imap_mailbox.specs.Flags.{has_too_many, no_flags, with_flag}
use Rattle.imap_rights.specs.Rights.{delete_messages, has_any, no_rights, seen, write}
use Rattle.imap_session.specs.State.{Selection}
use Rattle.imap_syntax.specs.declared.flag.Flag.{Flag}
use Rattle.imap_syntax.specs.declared.flag.Flag.TheVariants as flag
use Rattle.imap_view.specs.View.{View, rights_in}

-- the right that a flag needs
abbrev pub right_for : Flag → ℕ
right_for flag.Seen = seen
right_for flag.Deleted = delete_messages
right_for _ = write

-- with the flag, if the user holds the right that it needs
abbrev pub with_permitted_flag : (rights : ℕ) → Flag → SharedFlags → SharedFlags
with_permitted_flag rights flag f = if has_any rights (right_for flag) then with_flag flag f else f

abbrev pub with_permitted : (rights : ℕ) → List Flag → SharedFlags → SharedFlags
with_permitted rights [] f = f
with_permitted rights (flag ∷ flags) f = with_permitted rights flags (with_permitted_flag rights flag f)

-- the flags that all users share of a new message
abbrev pub new_flags : (rights : ℕ) → List Flag → SharedFlags
new_flags rights flags = with_permitted rights flags no_flags

-- these are the flags that are meant, or there are none as they have too many keywords
abbrev pub IsFew : (meant : SharedFlags) → Option SharedFlags → Type 0
IsFew meant None = has_too_many meant ≡ true
IsFew meant (Some f) = (f ≡ meant) × (has_too_many meant ≡ false)

abbrev pub is_seen : Flag → Bool
is_seen flag.Seen = true
is_seen _ = false

-- the user has seen a new message
abbrev pub is_new_seen : (rights : ℕ) → List Flag → Bool
is_new_seen rights flags = has_any rights seen && list_any is_seen flags

-- the rights by which flags of messages in the selected mailbox are changed. None is held in one that is examined
abbrev pub storing_rights : View → Selection → ℕ
storing_rights view s = if s.read_only then no_rights else rights_in view s.name
