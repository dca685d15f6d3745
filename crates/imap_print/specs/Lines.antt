-- The lines that a client reads: text, with literals in it, up to a CRLF (RFC 9051, sections 2.2.2 and 4.3).
use Rattle.std.specs.Prelude.{◌≡◌, ℕ, zero, suc, ◌+◌, ◌-◌, ◌*◌, Bool, true, false, ◌==◌, ◌||◌, not}
use Rattle.std.specs.Prelude.{List, [], ◌∷◌, ◌++◌, map, flat_map, Option, Some, None, if◌then◌else◌}
use Rattle.std.specs.List.{list_all, concat, AllByRecursion}
use Rattle.std.specs.Char.{is_ascii_digit}
use Rattle.imap_print.specs.declared.response.Response.{Response}
use Rattle.imap_print.specs.declared.response.Response.TheVariants as response
use Rattle.imap_print.specs.declared.flag.FlagSet.{FlagSet}
use Rattle.imap_query.specs.declared.fetch.Section.{Section}
use Rattle.imap_query.specs.declared.fetch.Section.TheVariants as section
pub use Rattle.imap_print.specs.Literals.{IsHeld}
use Rattle.imap_print.specs.Printed.{line, printed}

-- ---- a reader

-- the state of a reader within a line
pub data LineState : Type 0 where
  -- in text
  text : LineState
  -- after `{`
  opened : LineState
  -- after `{` and digits of this number
  counting : (n : ℕ) → LineState
  -- after `{n}`
  counted : (n : ℕ) → LineState
  -- after `{n}` and CR
  announced : (n : ℕ) → LineState
  -- in a literal, before n octets of it and one more
  within : (n : ℕ) → LineState
  -- after a CR in text
  ending : LineState
  -- after the line
  ended : LineState
  -- after a CR or LF that stands alone
  broken : LineState

-- the state after an octet that goes on with no `{n}`
abbrev pub text_next : ℕ → LineState
text_next octet =
    if octet == 123 then opened else (if octet == 13 then ending else (if octet == 10 then broken else text))

-- the state before a literal of n octets
abbrev pub literal : ℕ → LineState
literal zero = text
literal (suc n) = within n

abbrev pub next : LineState → ℕ → LineState
next text octet = text_next octet
next opened octet = if is_ascii_digit octet then counting (octet - 48) else text_next octet
next (counting n) octet =
    if is_ascii_digit octet then counting (10 * n + (octet - 48))
    else (if octet == 125 then counted n else text_next octet)
next (counted n) octet = if octet == 13 then announced n else text_next octet
next (announced n) octet = if octet == 10 then literal n else broken
next (within n) octet = literal n
next ending octet = if octet == 10 then ended else broken
next ended octet = ended
next broken octet = broken

abbrev pub has_ended : LineState → Bool
has_ended ended = true
has_ended state = false

-- the octets after the line that begins or goes on here
abbrev pub after_line : LineState → List ℕ → Option (List ℕ)
after_line state [] = if has_ended state then Some [] else None
after_line state (octet ∷ rest) =
    if has_ended state then Some (octet ∷ rest) else after_line (next state octet) rest

-- ---- what is read

abbrev pub section_names : Section → List (List ℕ)
section_names section.Whole = []
section_names section.Header = []
section_names section.Text = []
section_names (section.Fields names) = names
section_names (section.FieldsNot names) = names

abbrev pub flags_keywords : Option FlagSet → List (List ℕ)
flags_keywords (Some flags) = flags.keywords
flags_keywords None = []

abbrev pub given_tag : Option (List ℕ) → List (List ℕ)
given_tag (Some tag) = tag ∷ []
given_tag None = []

-- the names, identifiers, keywords and tags of a response: all texts but the server's own words and literals
abbrev pub texts : Response → List (List ℕ)
texts (response.Done tag code) = tag ∷ []
texts (response.Refused tag refusal) = given_tag tag
texts (response.List attributes mailbox) = mailbox ∷ []
texts (response.Status mailbox items) = mailbox ∷ []
texts (response.Acl mailbox entries) = mailbox ∷ map (λ entry. entry.identifier) entries
texts (response.MyRights mailbox rights) = mailbox ∷ []
texts (response.ListRights mailbox identifier owner) = mailbox ∷ identifier ∷ []
texts (response.Flags keywords) = keywords
texts (response.PermanentFlags flags any) = flags.keywords
texts (response.Fetch number items) =
    flags_keywords items.flags ++ flat_map (λ body. section_names body.section) items.sections
texts (response.Search tag uid results) = tag ∷ []
texts other = []

-- neither CR nor LF
abbrev pub is_plain : ℕ → Bool
is_plain octet = not (octet == 13 || octet == 10)

abbrev pub IsPlain : List ℕ → Type 0
IsPlain octets = list_all is_plain octets ≡ true

abbrev pub literals : Response → List (List ℕ)
literals (response.Fetch number items) = map (λ body. concat body.octets) items.sections
literals other = []

-- No text of the response has a CR or LF, and its literals fit into memory. A tag has neither by its type; so
-- this asks it of the names of mailboxes, identifiers, keywords and header fields.
pub record IsPrintable (reply : Response) : Type 0 where
  pub plain : AllByRecursion IsPlain (texts reply)
  pub held : AllByRecursion IsHeld (literals reply)

-- A client reads the octets of a printable response as one line, whatever follows them: each literal has as
-- many octets as it says, and no CR or LF stands elsewhere but in literals and at the end.
abbrev pub EachIsOneLine : Type 0
EachIsOneLine =
    (reply : Response) (rest : List ℕ) → IsPrintable reply → after_line text (line reply ++ rest) ≡ Some rest

-- a client reads the stream as these lines, in their order
abbrev pub AreReadFrom : List (List ℕ) → List ℕ → Type 0
AreReadFrom [] stream = stream ≡ []
AreReadFrom (front ∷ lines) stream =
    (rest : List ℕ) × (stream ≡ front ++ rest) × (after_line text stream ≡ Some rest) × AreReadFrom lines rest

-- So it reads as many lines as there are responses, and of each just the octets that are printed of it.
abbrev pub AllAreRead : Type 0
AllAreRead =
    (responses : List Response)
    → AllByRecursion IsPrintable responses → AreReadFrom (map line responses) (printed responses)
