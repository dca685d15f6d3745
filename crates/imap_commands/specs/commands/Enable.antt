-- ENABLE (RFC 9051, section 6.3.1).
use Rattle.std.specs.Prelude.{ℕ, List, ◌∷◌}
use Rattle.imap_commands.specs.declared.command.Command.{Command}
use Rattle.imap_commands.specs.declared.command.Command.TheVariants as command
use Rattle.imap_syntax.specs.Rule.{Rule, give, ◌>>=◌, ◌>>◌, some_of, separated}
use Rattle.imap_syntax.specs.Lexical.{is_atom_char, space}
use Rattle.imap_syntax.specs.Writing as writing
use Rattle.imap_syntax.specs.Written.{atom}

-- `enable`: words as written
abbrev pub enable : Rule Command
enable = do
  space
  words ← separated 32 (some_of is_atom_char)
  give (command.Enable words)

abbrev pub enable_text : List (List ℕ) → List ℕ
enable_text words = 32 ∷ (writing.separated 32 atom).text words
