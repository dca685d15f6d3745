-- APPEND (RFC 9051, section 6.3.12).
use Rattle.std.specs.Prelude.{ℕ, Bool, true, false, ◌&&◌, nat_lt, List, [], ◌∷◌, ◌++◌}
use Rattle.std.specs.Prelude.{length, Option, Some, None, if◌then◌else◌}
use Rattle.std.specs.List.{list_all}
use Rattle.imap_commands.specs.declared.command.Command.{Command}
use Rattle.imap_commands.specs.declared.command.Command.TheVariants as command
use Rattle.imap_syntax.specs.declared.flag.Flag.{Flag}
use Rattle.imap_syntax.specs.Moments.{Moment}
use Rattle.imap_syntax.specs.Rule.{Rule, give, ◌>>=◌, ◌>>◌, flag, counted, listed_end}
use Rattle.imap_syntax.specs.Lexical.{space, literal_head, has_nul}
use Rattle.imap_syntax.specs.Flags.{message_flag}
use Rattle.imap_syntax.specs.Dates.{date_time_end}
use Rattle.imap_syntax.specs.Writing as writing
use Rattle.imap_syntax.specs.Written as written
use Rattle.imap_syntax.specs.WrittenDates as dates
use Rattle.imap_commands.specs.commands.Argument.{argument, argument_text}

-- ---- as it is read

abbrev pub flags_after : Bool → Rule (List Flag)
flags_after false = give []
flags_after true = do
  flags ← listed_end message_flag
  space
  give flags

-- `flag-list` and a space, or nothing
abbrev pub append_flags : Rule (List Flag)
append_flags = do
  parenthesis ← flag 40
  flags_after parenthesis

abbrev pub date_after : Bool → Rule (Option Moment)
date_after false = give None
date_after true = do
  date ← date_time_end
  space
  give (Some date)

-- `date-time` and a space, or nothing
abbrev pub append_date : Rule (Option Moment)
append_date = do
  quote ← flag 34
  date_after quote

-- `literal` or `literal8`: any octets (RFC 9051, section 4.3.1, for ~)
abbrev pub message : Rule (List ℕ)
message = do
  tilde ← flag 126
  n ← literal_head
  counted n

abbrev pub append : Rule Command
append = do
  mailbox ← argument
  space
  flags ← append_flags
  date ← append_date
  octets ← message
  give (command.Append mailbox flags date octets)

-- ---- as it is written

abbrev pub date_fits : Option Moment → Bool
date_fits None = true
date_fits (Some date) = dates.date_time.fits date

-- `date-time` and a space
abbrev pub date_text : Option Moment → List ℕ
date_text None = []
date_text (Some date) = dates.date_time.text date ++ 32 ∷ []

-- `literal8` where a NUL stands in the message, else `literal` (RFC 9051, section 4.3.1)
abbrev pub message_text : List ℕ → List ℕ
message_text octets =
    if has_nul octets then 126 ∷ written.literal_text octets else written.literal_text octets

-- flags in parentheses and a space, or nothing
abbrev pub flags_text : List Flag → List ℕ
flags_text [] = []
flags_text (flag ∷ flags) = (writing.listed_or_none written.message_flag).text (flag ∷ flags) ++ 32 ∷ []

abbrev pub append_fits : List ℕ → List Flag → Option Moment → List ℕ → Bool
append_fits mailbox flags date message =
    written.string.fits mailbox
    && (list_all written.message_flag.fits flags
    && (date_fits date && nat_lt (length message) 18446744073709551616))

abbrev pub append_text : List ℕ → List Flag → Option Moment → List ℕ → List ℕ
append_text mailbox flags date message =
    argument_text mailbox
    ++ (32 ∷ (flags_text flags ++ (date_text date ++ message_text message)))
