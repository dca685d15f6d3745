-- Changes that may be refused.
use Rattle.std.specs.Prelude.{◌≡◌, ℕ, Bool, true, false, ◌==◌, ◌&&◌, ◌||◌, not, if◌then◌else◌}
use Rattle.std.specs.Prelude.{List, [], ◌∷◌, length, Option, Some, None, Result, Ok, Err}
use Rattle.std.specs.Str.{bytes_eq}
use Rattle.imap_syntax.specs.Moments.{Moment}
use Rattle.imap_modseq.specs.Numbers.{max_events}
use Rattle.imap_mailbox.specs.declared.flags.SharedFlags.{SharedFlags}
use Rattle.imap_mailbox.specs.declared.message.Message.{Message}
use Rattle.imap_mailbox.specs.declared.error.MailboxError.{MailboxError}
use Rattle.imap_mailbox.specs.declared.error.MailboxError.TheVariants.{Full, Limit, NoSuchUid, Memory}
use Rattle.imap_mailbox.specs.Flags.{has_too_many}
use Rattle.imap_mailbox.specs.Rows.{Arrival}
use Rattle.imap_mailbox.specs.Own.{own_at}
use Rattle.imap_mailbox.specs.Summary.{Summary, with_arrival, with_flags, with_expunge, with_seen, room_of}
use Rattle.imap_mailbox.specs.Summary.{is_there}
use Rattle.imap_mailbox.specs.Summary.{latest, latest_seen}

-- the call made the change that is meant, or was refused for the cause that is meant
abbrev pub Makes : {A B : Type 0} → Result B MailboxError → A → Result A MailboxError → Type 0
Makes (Ok done) new (Ok wanted) = wanted ≡ new
Makes (Ok done) new (Err refusal) = ⊥
Makes (Err error) new (Ok wanted) = ⊥
Makes (Err error) new (Err refusal) = error ≡ refusal

-- the same, but a change that is meant may fail for want of memory. A refusal that is meant never does
abbrev pub Changes : {A B : Type 0} → Result B MailboxError → A → Result A MailboxError → Type 0
Changes (Ok done) new (Ok wanted) = wanted ≡ new
Changes (Ok done) new (Err refusal) = ⊥
Changes (Err error) new (Ok wanted) = error ≡ Memory
Changes (Err error) new (Err refusal) = error ≡ refusal

abbrev pub is_same : Bool → Bool → Bool
is_same a b = (a && b) || (not a && not b)

abbrev pub same_words : List (List ℕ) → List (List ℕ) → Bool
same_words [] [] = true
same_words [] (v ∷ vs) = false
same_words (w ∷ ws) [] = false
same_words (w ∷ ws) (v ∷ vs) = bytes_eq w v && same_words ws vs

abbrev pub same_flags : SharedFlags → SharedFlags → Bool
same_flags a b =
    is_same a.answered b.answered
    && (is_same a.deleted b.deleted
    && (is_same a.draft b.draft
    && (is_same a.flagged b.flagged && same_words a.keywords b.keywords)))

abbrev pub message_at : ℕ → List Message → Option Message
message_at uid [] = None
message_at uid (m ∷ messages) = if m.uid == uid then Some m else message_at uid messages

abbrev pub arrival : ℕ → Moment → List ℕ → SharedFlags → Arrival
arrival uid date octets flags = record { uid = uid; date = date; octets = octets; flags = flags }

abbrev pub add_result : ℕ → Moment → List ℕ → SharedFlags → Summary → Result Summary MailboxError
add_result max_messages date octets flags s =
    if room_of max_messages s == 0 then Err Full
    else if has_too_many flags then Err Limit
    else Ok (with_arrival (arrival s.next date octets flags) s)

-- flags that stay as they are are no event
abbrev pub set_flags_case : ℕ → SharedFlags → Summary → Option Message → Result Summary MailboxError
set_flags_case uid flags s None = Err NoSuchUid
set_flags_case uid flags s (Some m) =
    if same_flags m.flags flags then Ok s
    else if has_too_many flags then Err Limit
    else if s.shared == max_events then Err Limit
    else Ok (with_flags uid flags s)

abbrev pub set_flags_result : ℕ → SharedFlags → Summary → Result Summary MailboxError
set_flags_result uid flags s = set_flags_case uid flags s (message_at uid s.messages)

abbrev pub expunge_case : ℕ → Summary → Option Message → Result Summary MailboxError
expunge_case uid s None = Err NoSuchUid
expunge_case uid s (Some m) = if s.shared == max_events then Err Limit else Ok (with_expunge uid s)

abbrev pub expunge_result : ℕ → Summary → Result Summary MailboxError
expunge_result uid s = expunge_case uid s (message_at uid s.messages)

-- and so is \Seen that stays
abbrev pub mark_seen_case : List ℕ → ℕ → Bool → Summary → Option Message → Result Summary MailboxError
mark_seen_case user uid seen s None = Err NoSuchUid
mark_seen_case user uid seen s (Some m) =
    if is_same (latest_seen (latest uid (own_at s.own user))) seen then Ok s
    else if length (own_at s.own user).befores == max_events then Err Limit
    else Ok (with_seen user uid seen s)

abbrev pub mark_seen_result : List ℕ → ℕ → Bool → Summary → Result Summary MailboxError
mark_seen_result user uid seen s = mark_seen_case user uid seen s (message_at uid s.messages)

-- ---- changes that are decided already: of a UID that is gone they change nothing

abbrev pub if_there : ℕ → Summary → Summary → Summary
if_there uid new s = if is_there uid s then new else s
