-- Flags (RFC 9051, section 9).
use Rattle.std.specs.Prelude.{ℕ, Bool, true, false, List, Option, Some, None, find}
use Rattle.std.specs.Str.{str_eq_ignore_ascii_case}
use Rattle.imap_syntax.specs.declared.flag.Flag.{Flag}
use Rattle.imap_syntax.specs.declared.flag.Flag.TheVariants as flag
use Rattle.imap_syntax.specs.declared.system_flag.SystemFlag.{SystemFlag}
use Rattle.imap_syntax.specs.declared.system_flag.SystemFlag.TheVariants as system
use Rattle.imap_syntax.specs.declared.system_flag.TheConstants.{SYSTEM_FLAGS}
use Rattle.imap_syntax.specs.Rule as rule
use Rattle.imap_syntax.specs.Rule.{Rule, give, ◌>>=◌, ◌>>◌, some_of}
pub use Rattle.imap_syntax.specs.SystemFlags.{flag_name}
use Rattle.imap_syntax.specs.Lexical.{is_atom_char}

abbrev pub system_flag : SystemFlag → Flag
system_flag system.Answered = flag.Answered
system_flag system.Deleted = flag.Deleted
system_flag system.Draft = flag.Draft
system_flag system.Flagged = flag.Flagged
system_flag system.Seen = flag.Seen

abbrev pub known_or : List ℕ → Option SystemFlag → Flag
known_or word (Some known) = system_flag known
known_or word None = flag.Other word

-- the word behind a backslash: one of the five in any case, or another
abbrev pub flag_of : Bool → List ℕ → Flag
flag_of true word =
    known_or word (find (λ known. str_eq_ignore_ascii_case word (flag_name known)) SYSTEM_FLAGS)
flag_of false word = flag.Keyword word

-- `flag`: [\] atom
abbrev pub message_flag : Rule Flag
message_flag = do
  backslash ← rule.flag 92
  word ← some_of is_atom_char
  give (flag_of backslash word)
