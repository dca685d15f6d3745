-- What a client makes of notices (RFC 9051, sections 7.4.1, 7.5.1 and 7.5.2; RFC 7162, section 3.2.10).
use Rattle.std.specs.Prelude.{◌≡◌, ℕ, zero, suc, ◌-◌, Bool, true, false, not, ◌==◌}
use Rattle.std.specs.Prelude.{List, [], ◌∷◌, ◌++◌, length, map, filter, Option, Some, None, if◌then◌else◌}
use Rattle.imap_print.specs.declared.response.Response.{Response}
use Rattle.imap_print.specs.declared.response.Response.TheVariants as response
use Rattle.imap_print.specs.declared.fetch.FetchedItems.{FetchedItems}
use Rattle.imap_print.specs.declared.flag.FlagSet.{FlagSet}
use Rattle.imap_mailbox.specs.Rows.{Row, is_among}
use Rattle.imap_mailbox.specs.Summary.{AreRising}
use Rattle.imap_session.specs.declared.options.NoticeOptions.{NoticeOptions}
use Rattle.imap_session.specs.Compared.{Comparison, Expunged, Present, comparisons, new_rows, is_told}
use Rattle.imap_session.specs.Notices.{flag_set, notices}

-- what a client holds of a message. Of one that EXISTS told it holds nothing at first
pub record ClientMessage : Type 0 where
  pub uid : Option ℕ
  pub flags : Option FlagSet

abbrev pub nothing_held : ClientMessage
nothing_held = record { uid = None; flags = None }

-- without the message of the number n, from 1: the numbers of later messages are one less
abbrev pub after_expunge : (n : ℕ) → List ClientMessage → List ClientMessage
after_expunge n [] = []
after_expunge zero (m ∷ held) = m ∷ held
after_expunge (suc n) (m ∷ held) = if n == 0 then held else m ∷ after_expunge n held

abbrev pub has_uid : List ℕ → Option ℕ → Bool
has_uid uids None = false
has_uid uids (Some uid) = is_among uid uids

abbrev pub after_vanished : List ℕ → List ClientMessage → List ClientMessage
after_vanished uids held = filter (λ m. not (has_uid uids m.uid)) held

abbrev pub unknown_messages : ℕ → List ClientMessage
unknown_messages zero = []
unknown_messages (suc n) = nothing_held ∷ unknown_messages n

-- there are n messages
abbrev pub after_exists : ℕ → List ClientMessage → List ClientMessage
after_exists n held = held ++ unknown_messages (n - length held)

abbrev pub or_else : {X : Type 0} → Option X → Option X → Option X
or_else None x = x
or_else (Some y) x = Some y

-- with the items of the message of the number n, from 1
abbrev pub after_fetch : (n : ℕ) → FetchedItems → List ClientMessage → List ClientMessage
after_fetch n items [] = []
after_fetch zero items (m ∷ held) = m ∷ held
after_fetch (suc n) items (m ∷ held) =
    if n == 0
    then record { uid = or_else items.uid m.uid; flags = or_else items.flags m.flags } ∷ held
    else m ∷ after_fetch n items held

abbrev pub after_line : Response → List ClientMessage → List ClientMessage
after_line (response.Expunge n) held = after_expunge n held
after_line (response.Vanished earlier uids) held = after_vanished uids held
after_line (response.Exists n) held = after_exists n held
after_line (response.Fetch n items) held = after_fetch n items held
after_line _ held = held

abbrev pub after_lines : List Response → List ClientMessage → List ClientMessage
after_lines [] held = held
after_lines (line ∷ lines) held = after_lines lines (after_line line held)

-- ---- what is told is enough

-- all of a message
abbrev pub client_message : Row → ClientMessage
client_message r = record { uid = Some r.uid; flags = Some (flag_set r.flags r.seen) }

-- the client holds the UIDs that the session knows, and the flags of each message that is still there and of which
-- the command's own lines told, or the session was told all
abbrev pub HoldsWhatIsTold : (up_to : ℕ) → (told : List ℕ) → List ClientMessage → List Comparison → Type 0
HoldsWhatIsTold up_to told [] [] = Unit {0}
HoldsWhatIsTold up_to told [] (c ∷ cs) = ⊥
HoldsWhatIsTold up_to told (m ∷ held) [] = ⊥
HoldsWhatIsTold up_to told (m ∷ held) (Expunged u ∷ cs) =
    (m.uid ≡ Some u) × HoldsWhatIsTold up_to told held cs
HoldsWhatIsTold up_to told (m ∷ held) (Present r ∷ cs) =
    (m.uid ≡ Some r.uid) × ((is_told up_to told r ≡ true → m.flags ≡ Some (flag_set r.flags r.seen))
    × HoldsWhatIsTold up_to told held cs)

-- what it holds afterwards: all of the messages that are still there, and what it held of others, if expunges may
-- not be told
abbrev pub held_after : (expunges : Bool) → List ClientMessage → List Comparison → List ClientMessage
held_after expunges [] cs = []
held_after expunges (m ∷ held) [] = []
held_after expunges (m ∷ held) (Expunged u ∷ cs) =
    if expunges then held_after expunges held cs else m ∷ held_after expunges held cs
held_after expunges (m ∷ held) (Present r ∷ cs) = client_message r ∷ held_after expunges held cs

-- a client that held what it was told holds all of these messages now, and of new messages that they exist
abbrev pub ClientFollows : Type 0
ClientFollows =
    (o : NoticeOptions) (up_to : ℕ) (told uids : List ℕ) (rows : List Row) (held : List ClientMessage)
    → AreRising uids → HoldsWhatIsTold up_to told held (comparisons uids rows)
    → after_lines (notices o up_to told uids rows) held
    ≡ held_after o.expunges held (comparisons uids rows) ++ unknown_messages (length (new_rows uids rows))

-- so that, if expunges may be told, it holds the messages of the mailbox, but for items of the new ones
abbrev pub ClientHoldsMailbox : Type 0
ClientHoldsMailbox =
    (o : NoticeOptions) (up_to : ℕ) (told uids : List ℕ) (rows : List Row) (held : List ClientMessage)
    → o.expunges ≡ true → AreRising uids → HoldsWhatIsTold up_to told held (comparisons uids rows)
    → (old : List Row) × ((old ++ new_rows uids rows ≡ rows)
    × (after_lines (notices o up_to told uids rows) held
    ≡ map client_message old ++ unknown_messages (length (new_rows uids rows))))
