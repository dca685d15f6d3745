-- Laws of names in modified UTF-7 (RFC 3501, section 5.1.3).
use Rattle.std.specs.Prelude.{◌≡◌, ℕ, Bool, true, false, List, [], ◌∷◌, ◌++◌, flat_map, IsUtf8, Option, Some, None, if◌then◌else◌}
use Rattle.std.specs.List.{AllByRecursion, list_all}
use Rattle.imap_lex.specs.CommandTag.{tag_of}
use Rattle.imap_lex.specs.Framing.{crlf}
use Rattle.imap_lex.specs.Stream.{Section}
use Rattle.imap_lex.specs.declared.frame.Frame.{Frame}
use Rattle.imap_lex.specs.declared.frame.Frame.TheVariants.{Whole}
use Rattle.imap_print.specs.declared.response.Response.{Response}
use Rattle.imap_print.specs.declared.enabled.EnabledCapabilities.{EnabledCapabilities}
use Rattle.imap_print.specs.Lines.{AreReadFrom, IsPrintable}
use Rattle.imap_print.specs.Printed.{line}
use Rattle.imap_commands.specs.Spells.{request_read}
use Rattle.imap_dialect.specs.Telling.{retold}
use Rattle.imap_rev1_frames.specs.Enable.{asks_utf8}
use Rattle.imap_rev1_frames.specs.Named.{named_by}
use Rattle.imap_rev1_frames.specs.Names.{name_for, other_command, renamed_octets, request_has_names, request_renamed}
use Rattle.imap_rev1_frames.specs.Rewritten.{instead_octets}
use Rattle.imap_utf7.specs.Laws.{is_plain}
use Rattle.imap_rev1.specs.declared.rev1.Rules.{Rules}
use Rattle.imap_rev1.specs.declared.utf7_rev1.Utf7Rev1.{Utf7Rev1}
use Rattle.imap_rev1.specs.Laws.{IsCommand, IsOneLine, is_condition, is_retold, names_capabilities}
use Rattle.imap_rev1.specs.Rev1.{lines_by, rev1, rules_for}
use Rattle.imap_rev1.specs.Shown.{name_in, other_shown, shown_reply}
use Rattle.imap_rev1.specs.Utf7.{accepted_by, accepted_text, ends_names, utf7_rev1}

-- ---- frames

-- A command of which no name is spelt in another way stays.
abbrev pub NamesStay : Type 0
NamesStay =
    (octets : List ℕ) → request_has_names (request_read octets) ≡ false → renamed_octets octets ≡ octets

-- Of any other the server reads the same request, with the texts of its names.
abbrev pub SeesTexts : Type 0
SeesTexts =
    (octets other : List ℕ) → other_command (request_read octets) ≡ Some other
    → (renamed_octets octets ≡ other) × (request_read other ≡ request_renamed (request_read octets))

-- the frame is one command with the tag of the octets
pub record SeesOne (octets : List ℕ) (frame : Frame) : Type 0 where
  pub seen : List ℕ
  pub whole : frame ≡ Whole seen
  pub sections : List Section
  pub last : List ℕ
  pub command : IsCommand seen sections last
  pub tag : tag_of seen ≡ tag_of octets

-- A command becomes one command with the same tag.
abbrev pub StaysOne : Type 0
StaysOne =
    (state : Utf7Rev1) (octets : List ℕ) (sections : List Section) (last : List ℕ)
    → IsCommand octets sections last → SeesOne octets (utf7_rev1.rewritten state (Whole octets))

-- ---- names

-- a name as it is shown
abbrev pub shown_name : (name : List ℕ) → List ℕ
shown_name name = instead_octets (other_shown name) name

-- The server sees the name that it told.
abbrev pub ReadsShown : Type 0
ReadsShown = (name : List ℕ) → IsUtf8 name → name_for (shown_name name) ≡ name

-- ---- replies

abbrev pub accepted_lines : Rules → Response → Option EnabledCapabilities → List (List ℕ)
accepted_lines rules reply (Some enabled) = (accepted_text enabled ++ crlf) ∷ []
accepted_lines rules reply None = lines_by rules reply

abbrev pub echoed_lines : Rules → (echoes : Bool) → Response → List (List ℕ)
echoed_lines rules echoes reply = accepted_lines rules reply (accepted_by echoes reply)

-- the lines in which a reply is told
abbrev pub named_lines : Utf7Rev1 → (by : Option Frame) → Response → List (List ℕ)
named_lines state by reply =
    echoed_lines (rules_for state.rev1 by) (asks_utf8 by) (if state.utf8 then reply else shown_reply reply)

-- A client reads each line in which a printable reply is told as one line, whatever follows it.
abbrev pub EachIsOneLine : Type 0
EachIsOneLine =
    (state : Utf7Rev1) (by : Option Frame) (reply : Response)
    → IsPrintable reply → AllByRecursion IsOneLine (named_lines state by reply)

-- So it reads just these lines in what it is told.
abbrev pub AllAreRead : Type 0
AllAreRead =
    (state : Utf7Rev1) (by : Option Frame) (replies : List Response)
    → AllByRecursion IsPrintable replies
    → AreReadFrom (flat_map (named_lines state by) replies) (retold utf7_rev1 state by replies)

-- Replies to frames that are not named and don't ask for UTF8=ACCEPT are printed, with the spellings of names.
abbrev pub PrintsOthers : Type 0
PrintsOthers =
    (state : Utf7Rev1) (by : Option Frame) (reply : Response)
    → is_retold (named_by state.rev1.rev2 by) ≡ false → asks_utf8 by ≡ false
    → names_capabilities reply ≡ false → state.utf8 ≡ false
    → utf7_rev1.told state by reply ≡ line (shown_reply reply)

-- the conditions of a command and the end of a session, whatever the frame is
abbrev pub PrintsConditions : Type 0
PrintsConditions =
    (state : Utf7Rev1) (by : Option Frame) (reply : Response)
    → is_condition reply ≡ true → utf7_rev1.told state by reply ≡ line reply

-- A reply stays that has no name, or one that is printable ASCII without `&`.
abbrev pub PlainRepliesStay : Type 0
PlainRepliesStay =
    ((reply : Response) → name_in reply ≡ None → shown_reply reply ≡ reply)
    × ((reply : Response) (name : List ℕ)
    → name_in reply ≡ Some name → list_all is_plain name ≡ true → shown_reply reply ≡ reply)

-- ---- ENABLE

-- Replies that don't say that IMAP4rev2 is enabled, and none to a frame that asks for UTF8=ACCEPT, change
-- nothing.
abbrev pub StaysUntilEnabled : Type 0
StaysUntilEnabled =
    (state : Utf7Rev1) (frame : Frame) (replies : List Response)
    → AllByRecursion (λ reply. ends_names (asks_utf8 (Some frame)) reply ≡ false) replies
    → (utf7_rev1.next state frame replies).utf8 ≡ state.utf8

-- Names are in UTF-8 once one says so, whatever comes after.
abbrev pub StaysEnabled : Type 0
StaysEnabled =
    (state : Utf7Rev1) (frame : Frame) (replies : List Response)
    → state.utf8 ≡ true → (utf7_rev1.next state frame replies).utf8 ≡ true

-- From then on frames are those of the dialect with names in UTF-8, and so are replies to frames that don't ask
-- for UTF8=ACCEPT.
abbrev pub EndsByEnabled : Type 0
EndsByEnabled =
    (state : Utf7Rev1) → state.utf8 ≡ true
    → ((frame : Frame) → utf7_rev1.rewritten state frame ≡ rev1.rewritten state.rev1 frame)
    × ((by : Option Frame) (reply : Response) → asks_utf8 by ≡ false
    → utf7_rev1.told state by reply ≡ rev1.told state.rev1 by reply)
