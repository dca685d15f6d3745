-- What is sent to a client that logs in (RFC 9051, sections 6.2 and 7).
use Rattle.std.specs.Prelude.{ℕ, List, ◌∷◌, ◌++◌, codes, length, if◌then◌else◌, eqb, None}
use Rattle.std.specs.List.{starts_with}
use Rattle.imap_lex.specs.Framing.{crlf}
use Rattle.imap_print.specs.declared.response.Farewell.TheVariants as farewell
use Rattle.imap_print.specs.declared.response.Refusal.TheVariants as refusal
use Rattle.imap_print.specs.declared.response.Response.TheVariants as response
use Rattle.imap_print.specs.Printed.{line, refusal_text}
use Rattle.imap_login.specs.declared.outcome.Outcome.{Outcome}
use Rattle.imap_login.specs.declared.outcome.Outcome.TheVariants as outcome

-- The capabilities are those of a client that has logged in, in the words of a dialect.

-- what the server can do besides before the login (RFC 4959 for SASL-IR)
abbrev pub login_capabilities : List ℕ
login_capabilities = codes " AUTH=PLAIN SASL-IR"

-- the first line of a connection (section 7.1.1)
abbrev pub greeting : (capabilities : List ℕ) → List ℕ
greeting capabilities =
    codes "* OK [CAPABILITY " ++ capabilities
    ++ (login_capabilities ++ codes "] shared mailbox profile ready" ++ crlf)

-- the first line of a session that begins without a login (section 7.1.4)
abbrev pub session_greeting : (capabilities : List ℕ) → List ℕ
session_greeting capabilities =
    codes "* PREAUTH [CAPABILITY " ++ capabilities ++ (codes "] shared mailbox profile ready" ++ crlf)

-- (section 7.2.2)
abbrev pub capability_line : (capabilities : List ℕ) → List ℕ
capability_line capabilities = codes "* CAPABILITY " ++ capabilities ++ (login_capabilities ++ crlf)

-- a continuation request that says nothing: the client is to send its response (section 6.2.2)
abbrev pub challenge : List ℕ
challenge = codes "+ " ++ crlf

-- the client may send a literal
abbrev pub ready : List ℕ
ready = line response.Ready

abbrev pub logging_out : List ℕ
logging_out = line (response.Bye farewell.LoggingOut)

abbrev pub limit_reached : List ℕ
limit_reached = line (response.Bye farewell.LimitReached)

abbrev pub idle_too_long : List ℕ
idle_too_long = line (response.Bye farewell.IdleTooLong)

abbrev pub outcome_text : Outcome → List ℕ
outcome_text outcome.Done = codes "OK done"
outcome_text outcome.AuthenticationFailed = codes "NO [AUTHENTICATIONFAILED] name or secret is wrong"
outcome_text outcome.Cannot = refusal_text refusal.Cannot
outcome_text outcome.Malformed = refusal_text refusal.Malformed
outcome_text outcome.WrongState = refusal_text refusal.WrongState

-- the last line to a command
abbrev pub tagged : (tag : List ℕ) → Outcome → List ℕ
tagged tag outcome = tag ++ 32 ∷ (outcome_text outcome ++ crlf)

-- the last line to the login that is right
abbrev pub welcome : (capabilities tag : List ℕ) → List ℕ
welcome capabilities tag = tag ++ (codes " OK [CAPABILITY " ++ capabilities ++ (codes "] done" ++ crlf))

-- the line to a command without a tag
abbrev pub untagged : List ℕ
untagged = line (response.Refused None refusal.WrongState)

-- how many octets a line has, if these begin with it
abbrev pub front_length : (line octets : List ℕ) → ℕ
front_length line octets = if starts_with eqb octets line then length line else 0
