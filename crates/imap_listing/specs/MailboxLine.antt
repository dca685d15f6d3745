-- The LIST line of one mailbox, as SELECT gives it (RFC 9051, section 6.3.2).
use Rattle.std.specs.Prelude.{Bool, true, false, List}
use Rattle.std.specs.List.{list_any}
use Rattle.imap_answer.specs.NameMapRows.{below_of}
use Rattle.imap_names.specs.Name.{Name}
use Rattle.imap_names.specs.Showing.{shown}
use Rattle.imap_answer.specs.Response.{Response}
use Rattle.imap_answer.specs.Seen.{Seen}
use Rattle.imap_answer.specs.View.{View}
use Rattle.imap_listing.specs.declared.line.Line.{Line}
use Rattle.imap_listing.specs.ListLine.{list_line}
use Rattle.imap_listing.specs.ViewNames.{is_listable}

abbrev pub is_any_listable : List (Name × Seen) → Bool
is_any_listable names = list_any (λ e. is_listable e.1) names

-- the user holds `l` on a mailbox below
abbrev pub has_listable_below : View → Name → Bool
has_listable_below view name = is_any_listable (below_of name view.seen)

-- the mailbox is there
abbrev pub line_of_mailbox : View → Name → Line
line_of_mailbox view name = record {
  name = shown view.user name;
  is_there = true;
  has_children = has_listable_below view name;
  is_subscribed = false;
}

abbrev pub mailbox_line : View → Name → Response
mailbox_line view name = list_line false (line_of_mailbox view name)
