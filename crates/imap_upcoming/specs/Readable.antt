-- What a user may read of a mailbox (RFC 4314, section 2.1, of the right `r`).
use Rattle.std.specs.Prelude.{ℕ, List, length, Option, Some, None, if◌then◌else◌}
use Rattle.imap_mailbox.specs.Own.{own_at}
use Rattle.imap_mailbox.specs.Summary.{Summary, highest_of, rows_of}
use Rattle.imap_rights.specs.Effective.{effective}
use Rattle.imap_rights.specs.Groups.{Members}
use Rattle.imap_rights.specs.Rights.{has_any, read}
use Rattle.imap_upcoming.specs.declared.upcoming.Upcoming.{Upcoming}
use Rattle.imap_view.specs.declared.readable.Readable.{Readable}
use Rattle.imap_world.specs.Mailbox.{Mailbox}

-- the messages as the user has them
abbrev pub messages_for : (user : List ℕ) → (validity : ℕ) → Summary → Readable
messages_for user validity s = record {
  validity = validity;
  next_uid = s.next;
  highest = highest_of s user;
  own = length (own_at s.own user).befores;
  rows = rows_of s user;
}

-- if the user may read them; `owner` is that of the tree
abbrev pub readable_for : (user owner : List ℕ) → Members → Mailbox → Option Readable
readable_for user owner groups m =
    if has_any (effective user owner groups m.acl) read then Some (messages_for user m.validity m.messages)
    else None

-- what the code's own stands for
abbrev pub readable : Upcoming → Readable
readable u = record {
  validity = u.validity;
  next_uid = u.next_uid;
  highest = u.highest;
  own = u.own;
  rows = u.messages;
}
