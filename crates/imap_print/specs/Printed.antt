-- The octets in which responses are printed (RFC 9051, sections 7 and 9).
use Rattle.std.specs.Prelude.{ℕ, Bool, true, false, List, [], ◌++◌, codes, decimal}
use Rattle.std.specs.Prelude.{flat_map, Option, Some, None}
use Rattle.imap_lex.specs.Framing.{crlf}
use Rattle.imap_rights.specs.Rights.{bits, letters_of}
use Rattle.imap_print.specs.declared.copied.CopiedUids.{CopiedUids}
use Rattle.imap_print.specs.declared.enabled.EnabledCapabilities.{EnabledCapabilities}
use Rattle.imap_print.specs.declared.response.Code.{Code}
use Rattle.imap_print.specs.declared.response.Code.TheVariants as code
use Rattle.imap_print.specs.declared.response.Farewell.{Farewell}
use Rattle.imap_print.specs.declared.response.Farewell.TheVariants as farewell
use Rattle.imap_print.specs.declared.response.Refusal.{Refusal}
use Rattle.imap_print.specs.declared.response.Refusal.TheVariants as refusal
use Rattle.imap_print.specs.declared.response.Response.{Response}
use Rattle.imap_print.specs.declared.response.Response.TheVariants as response
use Rattle.imap_print.specs.declared.search.SearchResults.{SearchResults}
use Rattle.imap_print.specs.Words.{before_each, given, given_by, in_parentheses}
use Rattle.imap_syntax.specs.Written.{quoted_text}
use Rattle.imap_print.specs.Strings.{name_text}
use Rattle.imap_print.specs.Sets.{set_text}
use Rattle.imap_print.specs.Flags.{every_system_flag, permanent_text}
use Rattle.imap_print.specs.Fetched.{fetched_text}
use Rattle.imap_print.specs.Mailboxes.{attributes_text, values_text, entries_text, grantable_text}

-- what the server can do (RFC 9051, section 7.2.2)
abbrev pub capabilities : List ℕ
capabilities = codes "IMAP4rev2 ACL RIGHTS=texk CONDSTORE ENABLE IDLE QRESYNC"

abbrev pub farewell_text : Farewell → List ℕ
farewell_text farewell.LoggingOut = codes "logging out"
farewell_text farewell.LimitReached = codes "limit reached"
farewell_text farewell.IdleTooLong = codes "idle too long"
farewell_text farewell.MailboxUnavailable = codes "selected mailbox is no longer available"

-- the condition, its response code (RFC 5530) and words for a person (RFC 9051, section 7.1)
abbrev pub refusal_text : Refusal → List ℕ
refusal_text refusal.NonExistent = codes "NO [NONEXISTENT] no such mailbox"
refusal_text refusal.NoPerm = codes "NO [NOPERM] right missing"
refusal_text refusal.AlreadyExists = codes "NO [ALREADYEXISTS] name is taken"
refusal_text refusal.HasChildren = codes "NO [HASCHILDREN] names below"
refusal_text refusal.Cannot = codes "NO [CANNOT] not possible"
refusal_text refusal.Limit = codes "NO [LIMIT] limit reached"
refusal_text refusal.OverQuota = codes "NO [OVERQUOTA] mailbox is full"
refusal_text refusal.TryCreate = codes "NO [TRYCREATE] no such mailbox"
refusal_text refusal.ExpungeIssued = codes "NO [EXPUNGEISSUED] some messages are gone"
refusal_text refusal.InUse = codes "NO [INUSE] selected here"
refusal_text refusal.Unavailable = codes "NO [UNAVAILABLE] store refused"
refusal_text refusal.BadCharset = codes "NO [BADCHARSET (US-ASCII UTF-8)] charset unknown"
refusal_text refusal.Malformed = codes "BAD malformed command"
refusal_text refusal.WrongState = codes "BAD not in this state"

-- a response that answers no readable tag is untagged
abbrev pub tag_text : Option (List ℕ) → List ℕ
tag_text (Some tag) = tag
tag_text None = codes "*"

-- `resp-code-copy` (RFC 9051, section 9)
abbrev pub copied_text : CopiedUids → List ℕ
copied_text copied =
    codes "COPYUID " ++ decimal copied.validity ++ codes " " ++ set_text copied.source ++ codes " "
    ++ set_text copied.target

-- `resp-text-code` (RFC 9051, section 9; RFC 7162, section 7)
abbrev pub code_text : Code → List ℕ
code_text code.ReadWrite = codes "READ-WRITE"
code_text code.ReadOnly = codes "READ-ONLY"
code_text (code.AppendUid validity uid) = codes "APPENDUID " ++ decimal validity ++ codes " " ++ decimal uid
code_text (code.CopyUid copied) = copied_text copied
code_text (code.HighestModSeq mod_seq) = codes "HIGHESTMODSEQ " ++ decimal mod_seq
code_text (code.Modified numbers) = codes "MODIFIED " ++ set_text numbers

abbrev pub done_text : Option Code → List ℕ
done_text (Some code) = codes " OK [" ++ code_text code ++ codes "] done"
done_text None = codes " OK done"

-- the words of ENABLED (RFC 9051, section 7.2.1)
abbrev pub enabled_words : EnabledCapabilities → List (List ℕ)
enabled_words enabled =
    given enabled.condstore (codes "CONDSTORE") ++ given enabled.imap4rev2 (codes "IMAP4rev2")
    ++ given enabled.qresync (codes "QRESYNC")

-- (RFC 7162, section 3.2.10)
abbrev pub earlier_text : (earlier : Bool) → List ℕ
earlier_text true = codes "(EARLIER) "
earlier_text false = []

abbrev pub found_words : Option (List ℕ) → List (List ℕ)
found_words all = given_by (λ set. codes "ALL " ++ set_text set) all

-- the words of ESEARCH after the tag (RFC 9051, section 7.3.4; RFC 7162, section 3.1.5)
abbrev pub results_words : SearchResults → List (List ℕ)
results_words results =
    given_by (λ min. codes "MIN " ++ decimal min) results.min
    ++ given_by (λ max. codes "MAX " ++ decimal max) results.max
    ++ found_words results.all
    ++ given_by (λ count. codes "COUNT " ++ decimal count) results.count
    ++ given_by (λ mod_seq. codes "MODSEQ " ++ decimal mod_seq) results.mod_seq

abbrev pub line_text : Response → List ℕ
line_text response.Greeting =
    codes "* PREAUTH [CAPABILITY " ++ capabilities ++ codes "] shared mailbox profile ready"
line_text response.Capability = codes "* CAPABILITY " ++ capabilities
line_text (response.Bye farewell) = codes "* BYE " ++ farewell_text farewell
line_text (response.Done tag code) = tag ++ done_text code
line_text (response.Refused tag refusal) = tag_text tag ++ codes " " ++ refusal_text refusal
line_text response.Ready = codes "+ ready"
line_text response.Idling = codes "+ idling"
line_text response.Namespace =
    codes "* NAMESPACE ((\"\" \"/\")) ((\"Other Users/\" \"/\")) ((\"Shared/\" \"/\"))"
line_text (response.Enabled enabled) = codes "* ENABLED" ++ before_each 32 (enabled_words enabled)
line_text (response.List attributes mailbox) =
    codes "* LIST " ++ attributes_text attributes ++ codes " \"/\" " ++ name_text mailbox
line_text response.ListRoot = codes "* LIST (\\Noselect) \"/\" \"\""
line_text (response.Status mailbox items) =
    codes "* STATUS " ++ name_text mailbox ++ codes " " ++ values_text items
line_text (response.Acl mailbox entries) = codes "* ACL " ++ name_text mailbox ++ entries_text entries
line_text (response.MyRights mailbox rights) =
    codes "* MYRIGHTS " ++ name_text mailbox ++ codes " " ++ letters_of (bits rights)
line_text (response.ListRights mailbox identifier owner) =
    codes "* LISTRIGHTS " ++ name_text mailbox ++ codes " " ++ name_text identifier ++ codes " "
    ++ grantable_text owner
line_text (response.Flags keywords) = codes "* FLAGS " ++ in_parentheses (every_system_flag ++ keywords)
line_text (response.PermanentFlags flags any) =
    codes "* OK [PERMANENTFLAGS " ++ permanent_text flags any ++ codes "] flags kept"
line_text (response.Exists n) = codes "* " ++ (decimal n ++ codes " EXISTS")
line_text (response.Expunge n) = codes "* " ++ (decimal n ++ codes " EXPUNGE")
line_text (response.Vanished earlier uids) = codes "* VANISHED " ++ earlier_text earlier ++ set_text uids
line_text response.Closed = codes "* OK [CLOSED] closed"
line_text (response.UidValidity n) = codes "* OK [UIDVALIDITY " ++ (decimal n ++ codes "] validity")
line_text (response.UidNext n) = codes "* OK [UIDNEXT " ++ (decimal n ++ codes "] next")
line_text (response.HighestModSeq n) = codes "* OK [HIGHESTMODSEQ " ++ (decimal n ++ codes "] highest")
line_text (response.Moved copied) = codes "* OK [" ++ copied_text copied ++ codes "] moved"
line_text (response.Fetch number items) =
    codes "* " ++ decimal number ++ codes " FETCH " ++ fetched_text items
line_text (response.Search tag uid results) =
    codes "* ESEARCH (TAG " ++ quoted_text tag ++ codes ")"
    ++ before_each 32 (given uid (codes "UID") ++ results_words results)

abbrev pub line : Response → List ℕ
line response = line_text response ++ crlf

-- the lines in their order
abbrev pub printed : List Response → List ℕ
printed responses = flat_map line responses
