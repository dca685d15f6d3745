-- What the columns of the tables have of names, flags and numbers.
use Rattle.std.specs.Prelude.{ℕ, ℤ, pos, ◌+◌, Bool, List, [], ◌∷◌, ◌++◌, codes, if◌then◌else◌}
use Rattle.std.specs.List.{join_with_byte}
use Rattle.sqlite.specs.declared.types.Value.TheVariants.{Int, Text as Words, Blob as Bytes}
use Rattle.sqlite.specs.Order.{Row}
use Rattle.imap_mailbox.specs.declared.flags.SharedFlags.{SharedFlags}
use Rattle.imap_mailbox.specs.declared.message.GoneMessage.{GoneMessage}
use Rattle.imap_mailbox.specs.declared.message.Message.{Message}
use Rattle.imap_mailbox.specs.declared.kept_change.KeptChange.{KeptChange}
use Rattle.imap_names.specs.Name.{Name, is_empty, path_of, root_of}
use Rattle.imap_syntax.specs.Moments.{Moment}
use Rattle.imap_syntax.specs.WrittenDates.{date_time_text}
use Rattle.imap_tables.specs.Rows.{flag_of, mailbox_row}
use Rattle.imap_world.specs.Mailbox.{Mailbox}

-- ---- texts and numbers

-- the tree of a user is `u/` and his name, and that which all share is `s`
abbrev pub tree_at : (root : List ℕ) → List ℕ
tree_at root = if is_empty root then codes "s" else codes "u/" ++ root

abbrev pub tree_text : Name → List ℕ
tree_text name = tree_at (root_of name)

-- the date as it is printed, without quotes (RFC 9051, section 9, `date-time`)
abbrev pub date_text : Moment → List ℕ
date_text date = date_time_text date

-- the value of a bit, if it is set
abbrev pub bit : Bool → ℕ → ℕ
bit set value = if set then value else 0

-- \Answered, \Deleted, \Draft and \Flagged
abbrev pub flag_bits : SharedFlags → ℕ
flag_bits f = bit f.answered 1 + (bit f.deleted 2 + (bit f.draft 4 + bit f.flagged 8))

-- with a space between them
abbrev pub keywords_text : List (List ℕ) → List ℕ
keywords_text words = join_with_byte 32 words

-- each with a space before it
abbrev pub words_behind : List (List ℕ) → List ℕ
words_behind [] = []
words_behind (word ∷ words) = 32 ∷ word ++ words_behind words

-- a place is counted from 1
abbrev pub place_value : ℕ → ℤ
place_value place = pos (place + 1)

-- ---- the values of rows after the rowid

abbrev pub entry_values : (id : ℤ) (identifier : List ℕ) (rights : ℕ) → Row
entry_values id identifier rights = Int id ∷ Words identifier ∷ Int (pos rights) ∷ []

abbrev pub message_values : (id : ℤ) → Message → Row
message_values id m =
    Int id ∷ Int (pos m.uid) ∷ Words (date_text m.date) ∷ Bytes m.octets ∷ Int (pos (flag_bits m.flags))
    ∷ Words (keywords_text m.flags.keywords) ∷ Int (place_value m.place) ∷ []

abbrev pub gone_values : (id : ℤ) → GoneMessage → Row
gone_values id g = Int id ∷ Int (pos g.uid) ∷ Int (place_value g.place) ∷ []

-- a user's change of his own \Seen
abbrev pub mark_values : (id : ℤ) (user : List ℕ) → KeptChange → Row
mark_values id user k =
    Int id ∷ Words user ∷ Int (place_value k.place) ∷ Int (pos k.before) ∷ Int (pos k.uid)
    ∷ Int (flag_of k.seen) ∷ []

abbrev pub epoch_values : Name → (greatest : ℕ) → Row
epoch_values name greatest = Words (tree_text name) ∷ Words (path_of name) ∷ Int (pos greatest) ∷ []

abbrev pub subscription_values : (user : List ℕ) → Name → Row
subscription_values user name = Words user ∷ Words (tree_text name) ∷ Words (path_of name) ∷ []

-- the whole row of a mailbox, whose id is its rowid
abbrev pub row_of_mailbox : Name → Mailbox → (id : ℤ) → Row
row_of_mailbox name m id =
    mailbox_row id (tree_text name) (path_of name) m.validity m.messages.next (pos m.messages.shared)
