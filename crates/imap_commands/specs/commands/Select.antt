-- SELECT and EXAMINE (RFC 9051, section 6.3.2; RFC 7162, sections 3.1.8 and 3.2.5).
use Rattle.std.specs.Prelude.{ℕ, Bool, true, false, not, ◌&&◌, List, [], ◌∷◌, ◌++◌}
use Rattle.std.specs.Prelude.{codes, decimal, Option, Some, None}
use Rattle.std.specs.List.{list_any}
use Rattle.imap_syntax.specs.declared.set.SeqNumber.{SeqNumber}
use Rattle.imap_syntax.specs.declared.set.SeqNumber.TheVariants.{Number, Last}
use Rattle.imap_syntax.specs.declared.set.SeqRange.{SeqRange}
use Rattle.imap_commands.specs.declared.commands.select.QresyncArg.{QresyncArg}
use Rattle.imap_commands.specs.declared.commands.select.SelectParameters.{SelectParameters}
use Rattle.imap_commands.specs.declared.commands.select.ParameterWord.{ParameterWord}
use Rattle.imap_commands.specs.declared.commands.select.ParameterWord.TheVariants as word
use Rattle.imap_commands.specs.declared.commands.select.Parameter.{Parameter}
use Rattle.imap_commands.specs.declared.commands.select.Parameter.TheVariants.{Condstore, Qresync}
use Rattle.imap_commands.specs.declared.commands.select.TheConstants.{PARAMETER_WORDS}
use Rattle.imap_syntax.specs.Rule.{Rule, give, ◌>>=◌, ◌>>◌, octet, when, flag, keyword, judged}
use Rattle.imap_syntax.specs.Lexical.{is_astring_char, space, number, nz_number}
use Rattle.imap_syntax.specs.Sets.{seq_set}
use Rattle.imap_syntax.specs.Writing as writing
use Rattle.imap_syntax.specs.Writing.{Writing}
use Rattle.imap_syntax.specs.Written as written
use Rattle.imap_commands.specs.commands.Argument.{argument_text}

-- in capitals
abbrev pub parameter_name : ParameterWord → List ℕ
parameter_name word.Condstore = codes "CONDSTORE"
parameter_name word.Qresync = codes "QRESYNC"

-- ---- QRESYNC (RFC 7162, section 3.2.5)

abbrev pub is_last : SeqNumber → Bool
is_last Last = true
is_last (Number n) = false

abbrev pub has_last : SeqRange → Bool
has_last range = list_any is_last (range.first ∷ range.last ∷ [])

-- a set without *
abbrev pub known_set : Rule (List SeqRange)
known_set = do
  set ← seq_set
  when (not (list_any has_last set)) set

-- `seq-match-data` after its parenthesis: read and not kept
abbrev pub match_end : Rule (Unit {0})
match_end = do
  numbers ← known_set
  space
  uids ← known_set
  octet 41

abbrev pub match_after : Bool → Rule (Unit {0})
match_after false = give tt
match_after true = do
  octet 40
  match_end

-- `seq-match-data` after a space, or nothing
abbrev pub match_data : Rule (Unit {0})
match_data = do
  more ← flag 32
  match_after more

abbrev pub known_or_match : (parenthesis : Bool) → Rule (Option (List SeqRange))
known_or_match true = do
  match_end
  give None
known_or_match false = do
  uids ← known_set
  match_data
  give (Some uids)

abbrev pub known_after : Bool → Rule (Option (List SeqRange))
known_after false = give None
known_after true = do
  parenthesis ← flag 40
  known_or_match parenthesis

-- [SP known-uids] [SP seq-match-data]
abbrev pub known_uids : Rule (Option (List SeqRange))
known_uids = do
  more ← flag 32
  known_after more

abbrev pub qresync : Rule QresyncArg
qresync = do
  space
  octet 40
  validity ← nz_number 4294967295
  space
  mod_seq ← number 1 9223372036854775807
  known ← known_uids
  octet 41
  give (record { validity = validity; mod_seq = mod_seq; known_uids = known })

-- ---- parameters

abbrev pub parameter_after : ParameterWord → Rule Parameter
parameter_after word.Condstore = give Condstore
parameter_after word.Qresync = do known ← qresync; give (Qresync known)

abbrev pub parameter : Rule Parameter
parameter = do
  name ← keyword is_astring_char parameter_name PARAMETER_WORDS
  parameter_after name

abbrev pub one_parameter : Parameter → SelectParameters
one_parameter Condstore = record { condstore = true; qresync = None }
one_parameter (Qresync known) = record { condstore = false; qresync = Some known }

-- each once
abbrev pub both_parameters : Parameter → Parameter → Option SelectParameters
both_parameters Condstore (Qresync known) = Some (record { condstore = true; qresync = Some known })
both_parameters (Qresync known) Condstore = Some (record { condstore = true; qresync = Some known })
both_parameters _ _ = None

abbrev pub another_after : Parameter → Bool → Rule SelectParameters
another_after first false = give (one_parameter first)
another_after first true = do
  second ← parameter
  judged (both_parameters first second)

abbrev pub another_parameter : Parameter → Rule SelectParameters
another_parameter first = do
  more ← flag 32
  another_after first more

abbrev pub parameters_after : Bool → Rule SelectParameters
parameters_after false = give (record { condstore = false; qresync = None })
parameters_after true = do
  octet 40
  first ← parameter
  all ← another_parameter first
  octet 41
  give all

-- `select-params`, or nothing
abbrev pub parameters : Rule SelectParameters
parameters = do
  more ← flag 32
  parameters_after more

-- ---- as they are written

abbrev pub known_fits : Option (List SeqRange) → Bool
known_fits None = true
known_fits (Some uids) = written.seq_set.fits uids && not (list_any has_last uids)

abbrev pub known_text : Option (List SeqRange) → List ℕ
known_text None = []
known_text (Some uids) = 32 ∷ written.seq_set.text uids

abbrev pub qresync_writing : Writing QresyncArg
qresync_writing = record {
  fits = λ q.
      (writing.number 1 4294967295).fits q.validity
      && (written.mod_sequence.fits q.mod_seq && known_fits q.known_uids);
  text = λ q.
      codes " ("
      ++ (decimal q.validity ++ (32 ∷ (decimal q.mod_seq ++ (known_text q.known_uids ++ codes ")"))));
}

abbrev pub qresync_fits : Option QresyncArg → Bool
qresync_fits None = true
qresync_fits (Some known) = qresync_writing.fits known

abbrev pub parameters_by : (condstore : Bool) → Option QresyncArg → List ℕ
parameters_by false None = []
parameters_by true None = codes " (CONDSTORE)"
parameters_by false (Some known) = codes " (QRESYNC" ++ (qresync_writing.text known ++ codes ")")
parameters_by true (Some known) = codes " (CONDSTORE QRESYNC" ++ (qresync_writing.text known ++ codes ")")

-- `select-params`
abbrev pub parameters_writing : Writing SelectParameters
parameters_writing = record {
  fits = λ p. qresync_fits p.qresync;
  text = λ p. parameters_by p.condstore p.qresync;
}

-- ---- with the mailbox

abbrev pub selecting_fits : (mailbox : List ℕ) → SelectParameters → Bool
selecting_fits mailbox given = written.string.fits mailbox && parameters_writing.fits given

abbrev pub selecting_text : (mailbox : List ℕ) → SelectParameters → List ℕ
selecting_text mailbox given = argument_text mailbox ++ parameters_writing.text given
