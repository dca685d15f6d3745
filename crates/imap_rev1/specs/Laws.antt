-- Laws of the dialect of IMAP4rev1.
use Rattle.std.specs.Prelude.{◌≡◌, ◌≤◌, ◌==◌, ℕ, ◌+◌, Bool, true, false, List, [], ◌∷◌, ◌++◌}
use Rattle.std.specs.Prelude.{length, map, flat_map, codes, Option, Some, None}
use Rattle.std.specs.List.{AllByRecursion, list_all}
use Rattle.imap_lex.specs.CommandTag.{IsTag, tag_of}
use Rattle.imap_lex.specs.Framing.{beginning, crlf, run}
use Rattle.imap_lex.specs.Limits.{max_command_octets}
use Rattle.imap_lex.specs.Stream.{Section, IsSection, IsLastLine, sections_octets, sections_frames}
use Rattle.imap_lex.specs.Stream.{inside, outside}
use Rattle.imap_lex.specs.declared.frame.Frame.{Frame}
use Rattle.imap_lex.specs.declared.frame.Frame.TheVariants.{Whole, Continue, Reject, Hangup}
use Rattle.imap_print.specs.declared.response.Response.{Response}
use Rattle.imap_print.specs.declared.response.Response.TheVariants as response
use Rattle.imap_print.specs.declared.status.StatusValue.{StatusValue}
use Rattle.imap_print.specs.Lines.{after_line, is_plain, text, AreReadFrom, IsPrintable}
use Rattle.imap_print.specs.Words.{before_each, joined}
use Rattle.imap_print.specs.Printed.{line}
use Rattle.imap_rev1_frames.specs.declared.named.Named.{Named}
use Rattle.imap_rev1_frames.specs.declared.named.Named.TheVariants as named
use Rattle.imap_rev1.specs.declared.rev1.Rev1.{Rev1}
use Rattle.imap_rev1_frames.specs.declared.scan.Scan.{Scan}
use Rattle.imap_syntax.specs.Written.{quoted_text}
use Rattle.imap_rev1_frames.specs.Asked.{status_asked}
use Rattle.imap_rev1_frames.specs.Named.{is_rewritten, named_by, named_in}
use Rattle.imap_rev1.specs.Rev1.{enables_rev2, lines_by, rev1, rules_for, status_text}
use Rattle.imap_rev1_frames.specs.Rewritten.{rewritten_octets}
use Rattle.imap_rev1_frames.specs.Scan.{arguments, exchanged, is_outside, is_word_octet, key_for, next_line, passed, written}
use Rattle.imap_dialect.specs.Telling.{retold}

-- ---- frames

-- A frame that is not named is handed on unchanged.
abbrev pub HandsOthersOn : Type 0
HandsOthersOn =
    (state : Rev1) (frame : Frame)
    → is_rewritten (named_by state.rev2 (Some frame)) ≡ false → rev1.rewritten state frame ≡ frame

abbrev pub tag_in : Frame → Option (List ℕ)
tag_in (Whole octets) = tag_of octets
tag_in Continue = None
tag_in (Reject tag) = tag
tag_in Hangup = None

-- Every frame keeps its tag.
abbrev pub KeepsTags : Type 0
KeepsTags = (state : Rev1) (frame : Frame) → tag_in (rev1.rewritten state frame) ≡ tag_in frame

-- these octets are a command: lines that announce literals, each with its literal, and a last line
pub record IsCommand (octets : List ℕ) (sections : List Section) (last : List ℕ) : Type 0 where
  pub spelt : octets ≡ sections_octets sections ++ last
  pub each : AllByRecursion IsSection sections
  pub ends : IsLastLine last

abbrev pub literals_of : List Section → List (List ℕ)
literals_of sections = map (λ s. s.literal) sections

-- these octets are a command with the same literals, for which the client waits as before
pub record Becomes (octets : List ℕ) (sections : List Section) : Type 0 where
  pub others : List Section
  pub end : List ℕ
  pub command : IsCommand octets others end
  pub literals : literals_of others ≡ literals_of sections
  pub inside : inside others ≡ inside sections
  pub frames : sections_frames others ≡ sections_frames sections

-- A command becomes a command with the same literals.
abbrev pub StaysCommand : Type 0
StaysCommand =
    (state : Rev1) (octets : List ℕ) (sections : List Section) (last : List ℕ)
    → IsCommand octets sections last → Becomes (rewritten_octets state.rev2 octets) sections

-- A framer reads it as one frame, unless it has more octets outside literals than a command may have.
abbrev pub IsReadAsOne : Type 0
IsReadAsOne =
    (limit : ℕ) (octets : List ℕ) (sections : List Section) (last : List ℕ)
    → IsCommand octets sections last
    → outside sections + length last ≤ max_command_octets → inside sections ≤ limit
    → run (beginning limit) octets
    ≡ record { frames = sections_frames sections ++ Whole octets ∷ []; next = beginning limit }

-- CHECK is NOOP (RFC 3501, section 6.4.1).
abbrev pub ChecksByNoop : Type 0
ChecksByNoop =
    (state : Rev1) (tag : List ℕ) → IsTag tag
    → rev1.rewritten state (Whole (tag ++ codes " CHECK\r\n")) ≡ Whole (tag ++ codes " NOOP\r\n")

abbrev pub lsub_octets : (tag arguments : List ℕ) → List ℕ
lsub_octets tag arguments = (tag ++ (codes " LSUB " ++ arguments)) ++ crlf

-- LSUB is LIST of the subscribed names, with the same arguments (RFC 3501, section 6.3.9).
abbrev pub ListsSubscribed : Type 0
ListsSubscribed =
    (state : Rev1) (tag arguments : List ℕ)
    → IsTag tag → IsLastLine (lsub_octets tag arguments)
    → list_all is_plain arguments ≡ true
    → rev1.rewritten state (Whole (lsub_octets tag arguments))
    ≡ Whole ((tag ++ (codes " LIST (SUBSCRIBED) " ++ arguments)) ++ crlf)

-- A quoted string outside of others is written as it is, whatever it holds, and counts as one argument
-- (RFC 3501, section 9, `quoted`).
abbrev pub StringsStay : Type 0
StringsStay =
    (scan : Scan) (octets rest : List ℕ)
    → is_outside scan.quoting ≡ true
    → written scan [] (quoted_text octets ++ rest)
    ≡ quoted_text octets ++ written (next_line (passed scan)) [] rest

-- a word of a search with no string, keyword or charset after it
pub record IsKeyWord (word : List ℕ) : Type 0 where
  pub octets : list_all is_word_octet word ≡ true
  pub some : (length word == 0) ≡ false
  pub alone : arguments word ≡ 0

abbrev pub search_text : (tag : List ℕ) → (keys : List (List ℕ)) → List ℕ
search_text tag keys = tag ++ (codes " SEARCH" ++ before_each 32 keys)

abbrev pub search_octets : (tag : List ℕ) → (keys : List (List ℕ)) → List ℕ
search_octets tag keys = search_text tag keys ++ crlf

-- In a SEARCH that is named each of these words is exchanged on its own (RFC 3501, section 6.4.4).
abbrev pub SearchesByKeys : Type 0
SearchesByKeys =
    (state : Rev1) (tag : List ℕ) (keys : List (List ℕ))
    → IsTag tag → AllByRecursion IsKeyWord keys → IsLastLine (search_octets tag keys)
    → list_all is_plain (search_text tag keys) ≡ true
    → named_in state.rev2 (search_octets tag keys) ≡ named.Search
    → rev1.rewritten state (Whole (search_octets tag keys)) ≡ Whole (search_octets tag (map key_for keys))

-- a word
pub record IsPlainWord (word : List ℕ) : Type 0 where
  pub octets : list_all is_word_octet word ≡ true
  pub some : (length word == 0) ≡ false

-- items in parentheses after a word
abbrev pub listed : (first : List ℕ) → (items : List (List ℕ)) → List ℕ
listed first items = first ++ (codes " (" ++ (joined 32 items ++ codes ")"))

abbrev pub status_octets : (tag mailbox : List ℕ) → (items : List (List ℕ)) → List ℕ
status_octets tag mailbox items =
    (tag ++ (codes " STATUS " ++ listed mailbox items)) ++ crlf

-- MESSAGES is asked in place of RECENT (RFC 3501, section 6.3.10).
abbrev pub AsksMessages : Type 0
AsksMessages =
    (state : Rev1) (tag mailbox : List ℕ) (items : List (List ℕ))
    → IsTag tag → IsPlainWord mailbox → AllByRecursion IsPlainWord items
    → IsLastLine (status_octets tag mailbox items)
    → list_all is_plain (listed mailbox items) ≡ true
    → named_in state.rev2 (status_octets tag mailbox items) ≡ named.Status
    → rev1.rewritten state (Whole (status_octets tag mailbox items))
    ≡ Whole (status_octets tag mailbox (map (exchanged (codes "RECENT") (codes "MESSAGES")) items))

-- The value in its place is told as that of RECENT, and all others as they are.
abbrev pub TellsRecent : Type 0
TellsRecent =
    (state : Rev1) (tag mailbox : List ℕ) (items : List (List ℕ)) (name : List ℕ) (values : List StatusValue)
    → IsTag tag → IsPlainWord mailbox → AllByRecursion IsPlainWord items
    → IsLastLine (status_octets tag mailbox items)
    → list_all is_plain (listed mailbox items) ≡ true
    → named_in state.rev2 (status_octets tag mailbox items) ≡ named.Status
    → rev1.told state (Some (Whole (status_octets tag mailbox items))) (response.Status name values)
    ≡ status_text (map status_asked items) name values ++ crlf

-- ---- replies

abbrev pub IsOneLine : List ℕ → Type 0
IsOneLine octets = (rest : List ℕ) → after_line text (octets ++ rest) ≡ Some rest

-- A client reads each line in which a printable reply is told as one line, whatever follows it.
abbrev pub EachIsOneLine : Type 0
EachIsOneLine =
    (state : Rev1) (by : Option Frame) (reply : Response)
    → IsPrintable reply → AllByRecursion IsOneLine (lines_by (rules_for state by) reply)

-- So it reads just these lines in what it is told.
abbrev pub AllAreRead : Type 0
AllAreRead =
    (state : Rev1) (by : Option Frame) (replies : List Response)
    → AllByRecursion IsPrintable replies
    → AreReadFrom (flat_map (lines_by (rules_for state by)) replies) (retold rev1 state by replies)

-- the greeting and CAPABILITY name what the server can do
abbrev pub names_capabilities : Response → Bool
names_capabilities response.Greeting = true
names_capabilities response.Capability = true
names_capabilities _ = false

-- some replies to the command are told in another way
abbrev pub is_retold : Named → Bool
is_retold named.Check = false
is_retold named.Other = false
is_retold _ = true

-- Replies to other frames, and those for which no frame asked, are printed.
abbrev pub PrintsOthers : Type 0
PrintsOthers =
    (state : Rev1) (by : Option Frame) (reply : Response)
    → is_retold (named_by state.rev2 by) ≡ false → names_capabilities reply ≡ false
    → rev1.told state by reply ≡ line reply

-- the conditions of a command and the end of a session
abbrev pub is_condition : Response → Bool
is_condition (response.Bye farewell) = true
is_condition (response.Done tag code) = true
is_condition (response.Refused tag refusal) = true
is_condition _ = false

-- They are printed, whatever the frame is.
abbrev pub PrintsConditions : Type 0
PrintsConditions =
    (state : Rev1) (by : Option Frame) (reply : Response)
    → is_condition reply ≡ true → rev1.told state by reply ≡ line reply

-- ---- ENABLE

-- commands that are named until IMAP4rev2 is enabled
abbrev pub is_until_rev2 : Named → Bool
is_until_rev2 named.Check = false
is_until_rev2 named.Lsub = false
is_until_rev2 named.Fetch = false
is_until_rev2 named.Other = false
is_until_rev2 _ = true

-- From then on no frame is one of these.
abbrev pub EndsByRev2 : Type 0
EndsByRev2 = (by : Option Frame) → is_until_rev2 (named_by true by) ≡ false

-- Replies that don't say that IMAP4rev2 is enabled leave the state as it is.
abbrev pub StaysUntilEnabled : Type 0
StaysUntilEnabled =
    (state : Rev1) (frame : Frame) (replies : List Response)
    → AllByRecursion (λ reply. enables_rev2 reply ≡ false) replies → rev1.next state frame replies ≡ state

-- One that says so ends it, whatever comes after.
abbrev pub StaysEnabled : Type 0
StaysEnabled =
    (state : Rev1) (frame : Frame) (replies : List Response)
    → state.rev2 ≡ true → rev1.next state frame replies ≡ state
