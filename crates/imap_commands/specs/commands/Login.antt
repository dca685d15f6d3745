-- The rest of a LOGIN, AUTHENTICATE or STARTTLS line, whatever it is (RFC 9051, section 6.2).
use Rattle.std.specs.Prelude.{◌≡◌, ℕ, zero, suc, Bool, true, false, ◌==◌, ◌||◌, not, List, ◌++◌}
use Rattle.std.specs.Prelude.{length, take, drop, Option, Some, None}
use Rattle.std.specs.List.{prefix_len, AllByRecursion}
use Rattle.imap_lex.specs.Mark.{Announced, line_mark}
use Rattle.imap_lex.specs.Framing as framing
use Rattle.imap_lex.specs.Stream.{IsMarkedLine, IsLastLine, Section, sections_octets}
use Rattle.imap_commands.specs.declared.command.Command.{Command}
use Rattle.imap_commands.specs.declared.command.Command.TheVariants as command
use Rattle.imap_syntax.specs.Rule.{Rule, fail, give, ◌>>=◌, ◌>>◌, when, flag, counted, ConsistsOf}
use Rattle.imap_syntax.specs.Lexical.{crlf, has_nul}

-- neither CR nor LF
abbrev pub is_line_char : ℕ → Bool
is_line_char b = not (b == 13 || b == 10)

-- CR and LF stand nowhere in the line but at its end.
pub record IsPlainLine (line : List ℕ) : Type 0 where
  pub text : List ℕ
  pub chars : ConsistsOf is_line_char text
  pub whole : line ≡ text ++ framing.crlf

-- a line that announces a literal, and the literal, in which no NUL stands
pub record IsPlainSection (s : Section) : Type 0 where
  pub marked : IsMarkedLine s.line s.mark
  pub plain : IsPlainLine s.line
  pub size : length s.literal ≡ s.mark.size
  pub no_nul : has_nul s.literal ≡ false

-- The text, with CRLF after it, is lines that announce literals, each with its literal, and a last line.
pub record IsLines (text : List ℕ) : Type 0 where
  pub sections : List Section
  pub last : List ℕ
  pub each : AllByRecursion IsPlainSection sections
  pub ends : IsLastLine last
  pub plain : IsPlainLine last
  pub whole : text ++ framing.crlf ≡ sections_octets sections ++ last

-- ---- what reading finds of it

-- the octets before the next CR or LF
abbrev pub line_rest : Rule (List ℕ)
line_rest = record {
  spells = λ a text. (text ≡ a) × ConsistsOf is_line_char text;
  read = λ input.
      Some (take (prefix_len is_line_char input) input, drop (prefix_len is_line_char input) input);
}

-- CRLF and n octets without NUL
abbrev pub announced_literal : (n : ℕ) → Rule (Unit {0})
announced_literal n = do
  crlf
  octets ← counted n
  when (not (has_nul octets)) tt

-- the literal that a line announces, and more lines
abbrev pub after_line : Rule (Unit {0}) → Option Announced → Rule (Unit {0})
after_line others None = give tt
after_line others (Some mark) = do
  announced_literal mark.size
  others

-- n lines at most
unfoldable pub lines_up_to : ℕ → Rule (Unit {0})
lines_up_to zero = fail
lines_up_to (suc n) = do
  text ← line_rest
  after_line (lines_up_to n) (line_mark (text ++ framing.crlf))

unfoldable pub lines_read : List ℕ → Option (Unit {0} × List ℕ)
lines_read input = (lines_up_to (suc (length input))).read input

-- ---- the arguments

abbrev pub lines : Rule (Unit {0})
lines = record {
  spells = λ _ text. IsLines text;
  read = lines_read;
}

abbrev pub any_arguments_after : Bool → Rule Command
any_arguments_after false = give command.Authenticate
any_arguments_after true = do
  lines
  give command.Authenticate

-- SP and any lines, or nothing
abbrev pub any_arguments : Rule Command
any_arguments = do
  more ← flag 32
  any_arguments_after more
