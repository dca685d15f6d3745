-- What a client that has not logged in asks for (RFC 9051, sections 6.1, 6.2 and 9).
use Rattle.std.specs.Prelude.{ℕ, Bool, true, false, List, [], ◌∷◌, length, drop, codes, if◌then◌else◌}
use Rattle.std.specs.Prelude.{Option, Some, None}
use Rattle.std.specs.Str.{str_eq_ignore_ascii_case}
use Rattle.imap_syntax.specs.Rule.{Rule, give, ◌>>=◌, ◌>>◌, some_of, flag, keyword}
use Rattle.imap_syntax.specs.Lexical.{astring, crlf, space, is_astring_char, is_atom_char}
use Rattle.imap_login.specs.declared.asked.Asked.{Asked}
use Rattle.imap_login.specs.declared.asked.Asked.TheVariants as asked
use Rattle.imap_login.specs.declared.word.Word.{Word}
use Rattle.imap_login.specs.declared.word.Word.TheVariants as word
use Rattle.imap_login.specs.declared.word.TheConstants.{WORDS}

abbrev pub word_name : Word → List ℕ
word_name word.Authenticate = codes "AUTHENTICATE"
word_name word.Capability = codes "CAPABILITY"
word_name word.Login = codes "LOGIN"
word_name word.Logout = codes "LOGOUT"
word_name word.Noop = codes "NOOP"

-- CRLF, for this value
abbrev pub ended : {A : Type 0} → A → Rule A
ended a = do
  crlf
  give a

-- SP userid SP password
abbrev pub login : Rule Asked
login = do
  space
  name ← astring
  space
  password ← astring
  ended (asked.Login name password)

-- an atom, or base64
abbrev pub atom : Rule (List ℕ)
atom = some_of is_atom_char

abbrev pub response_after : (more : Bool) → Rule (Option (List ℕ))
response_after false = give None
response_after true = do
  response ← atom
  give (Some response)

-- [SP initial-resp] (RFC 4959, section 3)
abbrev pub response : Rule (Option (List ℕ))
response = do
  more ← flag 32
  response_after more

abbrev pub is_plain : (mechanism : List ℕ) → Bool
is_plain mechanism = str_eq_ignore_ascii_case mechanism (codes "PLAIN")

abbrev pub asked_with : (mechanism : List ℕ) → Option (List ℕ) → Asked
asked_with mechanism given = if is_plain mechanism then asked.Plain given else asked.OtherMechanism

-- SP auth-type [SP initial-resp]
abbrev pub authenticate : Rule Asked
authenticate = do
  space
  mechanism ← atom
  given ← response
  ended (asked_with mechanism given)

abbrev pub arguments : Word → Rule Asked
arguments word.Authenticate = authenticate
arguments word.Capability = ended asked.Capability
arguments word.Login = login
arguments word.Logout = ended asked.Logout
arguments word.Noop = ended asked.Noop

-- what follows the tag of a command
abbrev pub command : Rule Asked
command = do
  space
  name ← keyword is_astring_char word_name WORDS
  arguments name

-- a command is only what takes the whole frame
abbrev pub asked_by : Option (Asked × List ℕ) → Asked
asked_by (Some (request, [])) = request
asked_by (Some (request, b ∷ rest)) = asked.Other
asked_by None = asked.Other

-- what a frame with this tag asks for
abbrev pub asked_of : (tag frame : List ℕ) → Asked
asked_of tag frame = asked_by (command.read (drop (length tag) frame))
