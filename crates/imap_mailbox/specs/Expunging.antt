-- Several messages that are expunged, in the order of their UIDs.
use Rattle.std.specs.Prelude.{ℕ, ◌+◌, not, List, [], ◌∷◌, filter}
use Rattle.imap_mailbox.specs.declared.message.Message.{Message}
use Rattle.imap_mailbox.specs.declared.message.GoneMessage.{GoneMessage}
use Rattle.imap_mailbox.specs.Rows.{is_among}
use Rattle.imap_mailbox.specs.Summary.{Summary, uids_in, with_expunge}
use Rattle.imap_mailbox.specs.Calls.{if_there}

-- the messages with these UIDs are expunged one after the other; a UID that no message has changes nothing
abbrev pub with_expunges : List ℕ → Summary → Summary
with_expunges [] s = s
with_expunges (uid ∷ uids) s = with_expunges uids (if_there uid (with_expunge uid s) s)

-- ---- by lists

abbrev pub without_all : List ℕ → List Message → List Message
without_all uids messages = filter (λ m. not (is_among m.uid uids)) messages

-- the UIDs that messages have
abbrev pub uids_there : List ℕ → List Message → List ℕ
uids_there uids messages = filter (λ uid. is_among uid (uids_in messages)) uids

-- these UIDs, gone by the events from the place on
abbrev pub gone_at : ℕ → List ℕ → List GoneMessage
gone_at place [] = []
gone_at place (uid ∷ uids) = record { uid = uid; place = place } ∷ gone_at (place + 1) uids
