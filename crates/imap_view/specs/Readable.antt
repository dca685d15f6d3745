-- What is shown of a mailbox to a user who may read it (RFC 4314, section 2.1, of the right `r`).
use Rattle.std.specs.Prelude.{ℕ, Option, Some, None, option_and_then, if◌then◌else◌}
use Rattle.std.specs.FinMap as map
use Rattle.imap_world.specs.Brought.{highest_in}
use Rattle.imap_world.specs.Shown.{Content}
use Rattle.imap_names.specs.Name.{Name}
use Rattle.imap_world.specs.Rights.{has_any, read}
use Rattle.imap_view.specs.declared.readable.Readable.{Readable}
use Rattle.imap_view.specs.Seen.{Seen}
use Rattle.imap_view.specs.View.{View}

-- if its messages are shown
abbrev pub readable_by : (validity : Option ℕ) → Option Content → Option Readable
readable_by (Some validity) (Some content) = Some (record {
  validity = validity;
  next_uid = content.next;
  highest = highest_in content;
  own = content.own;
  rows = content.rows;
})
readable_by _ _ = None

-- to a user who holds `r`: `a` alone is not enough
abbrev pub readable_of : Seen → Option Readable
readable_of seen =
    if has_any seen.rights read then readable_by seen.validity seen.messages.content else None

-- the mailbox of this name, if the user may read it
abbrev pub readable_in : View → Name → Option Readable
readable_in view name = option_and_then readable_of (map.get view.seen name)
