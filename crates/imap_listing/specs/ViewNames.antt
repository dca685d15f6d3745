-- The names of a view, as its user is shown them.
use Rattle.std.specs.Prelude.{◌↔◌, Bool, List, Option, Some, None, map, filter, if◌then◌else◌}
use Rattle.std.specs.FinMap as fin
use Rattle.std.specs.List.{Contains}
use Rattle.imap_names.specs.Name.{Name}
use Rattle.imap_names.specs.Showing.{shown}
use Rattle.imap_rights.specs.Rights.{has_any, lookup}
use Rattle.imap_answer.specs.Seen.{Seen}
use Rattle.imap_answer.specs.View.{View}
use Rattle.imap_listing.specs.Texts.{Text}

-- `l` lets its holder see the mailbox in lists (RFC 4314, section 2.1)
abbrev pub is_listable : Seen → Bool
is_listable seen = has_any seen.rights lookup

abbrev pub listable_among : List (Name × Seen) → List (Name × Seen)
listable_among names = filter (λ e. is_listable e.1) names

abbrev pub shown_names : {X : Type 0} → View → List (Name × X) → List Text
shown_names view names = map (λ e. shown view.user e.0) names

abbrev pub shown_if_listable : View → Name → Option Seen → Option Text
shown_if_listable view name None = None
shown_if_listable view name (Some seen) = if is_listable seen then Some (shown view.user name) else None

-- the names of the mailboxes on which the user holds `l`
abbrev pub listable_names : View → List Text
listable_names view = shown_names view (listable_among (fin.entries view.seen))

-- a name on whose mailbox the user holds `l`, as the user is shown it
abbrev pub listable_at : View → Name → Option Text
listable_at view name = shown_if_listable view name (fin.get view.seen name)

-- the same texts, in any order and number
abbrev pub HaveSame : List Text → List Text → Type 0
HaveSame texts others = (text : Text) → Contains texts text ↔ Contains others text

-- the names that the user subscribed to
abbrev pub subscribed_names : View → List Text
subscribed_names view = shown_names view (fin.entries view.subscribed)
