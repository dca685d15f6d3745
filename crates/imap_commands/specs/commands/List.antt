-- LIST (RFC 9051, section 6.3.9).
use Rattle.std.specs.Prelude.{ℕ, Bool, true, false, ◌==◌, ◌||◌, ◌&&◌, not, List, [], ◌∷◌}
use Rattle.std.specs.Prelude.{◌++◌, codes, Option, Some, None}
use Rattle.std.specs.List.{list_any, list_all}
use Rattle.imap_commands.specs.declared.command.Command.{Command}
use Rattle.imap_commands.specs.declared.command.Command.TheVariants as command
use Rattle.imap_commands.specs.declared.commands.list.Selection.{Selection}
use Rattle.imap_commands.specs.declared.commands.list.Selection.TheVariants as selected
use Rattle.imap_commands.specs.declared.commands.list.ListReturn.{ListReturn}
use Rattle.imap_commands.specs.declared.commands.list.ListReturn.TheVariants as option
use Rattle.imap_commands.specs.declared.commands.list.ListReturnWord.{ListReturnWord}
use Rattle.imap_commands.specs.declared.commands.list.ListReturnWord.TheVariants as word
use Rattle.imap_commands.specs.declared.commands.list.ReturnWord.{ReturnWord}
use Rattle.imap_commands.specs.declared.commands.list.ReturnWord.TheVariants.{Return}
use Rattle.imap_commands.specs.declared.commands.list.Patterns.{Patterns}
use Rattle.imap_commands.specs.declared.commands.list.Patterns.TheVariants.{One, Many}
use Rattle.imap_commands.specs.declared.commands.list.TheConstants.{SELECTIONS, LIST_RETURN_WORDS}
use Rattle.imap_commands.specs.declared.commands.list.TheConstants.{RETURN_WORDS}
use Rattle.imap_syntax.specs.Rule.{Rule, give, ◌>>=◌, ◌>>◌, ◌<|>◌, octet, some_of, when, flag, keyword}
use Rattle.imap_syntax.specs.Rule.{separated, listed, listed_end, listed_or_none}
use Rattle.imap_syntax.specs.Lexical.{is_astring_char, space, string, astring}
use Rattle.imap_syntax.specs.Writing as writing
use Rattle.imap_syntax.specs.Writing.{Writing}
use Rattle.imap_syntax.specs.Written as written
use Rattle.imap_query.specs.Status.{status_item}
use Rattle.imap_query.specs.StatusWords.{status_name}

-- ---- words, in capitals

abbrev pub selection_name : Selection → List ℕ
selection_name selected.Subscribed = codes "SUBSCRIBED"
selection_name selected.Remote = codes "REMOTE"
selection_name selected.RecursiveMatch = codes "RECURSIVEMATCH"

abbrev pub list_return_name : ListReturnWord → List ℕ
list_return_name word.Children = codes "CHILDREN"
list_return_name word.Status = codes "STATUS"
list_return_name word.Subscribed = codes "SUBSCRIBED"

abbrev pub return_name : ReturnWord → List ℕ
return_name Return = codes "RETURN"

-- ---- selections

abbrev pub is_subscribed : Selection → Bool
is_subscribed selected.Subscribed = true
is_subscribed selected.Remote = false
is_subscribed selected.RecursiveMatch = false

abbrev pub is_recursive : Selection → Bool
is_recursive selected.Subscribed = false
is_recursive selected.Remote = false
is_recursive selected.RecursiveMatch = true

-- RECURSIVEMATCH stands beside SUBSCRIBED alone
abbrev pub may_be_selected : List Selection → Bool
may_be_selected all = not (list_any is_recursive all) || list_any is_subscribed all

abbrev pub selections_after : Bool → Rule (Option (List Selection))
selections_after false = give None
selections_after true = do
  all ← listed_end (keyword is_astring_char selection_name SELECTIONS)
  space
  when (may_be_selected all) (Some all)

-- `list-select-opts` and a space, or nothing
abbrev pub selections : Rule (Option (List Selection))
selections = do
  parenthesis ← flag 40
  selections_after parenthesis

-- ---- patterns

-- `list-char`: ATOM-CHAR / ] / % / *
abbrev pub is_list_char : ℕ → Bool
is_list_char b = is_astring_char b || b == 37 || b == 42

-- `list-mailbox`
abbrev pub pattern : Rule (List ℕ)
pattern = some_of is_list_char <|> string

abbrev pub patterns_after : Bool → Rule Patterns
patterns_after false = do
  one ← pattern
  give (One one)
patterns_after true = do
  all ← separated 32 pattern
  octet 41
  give (Many all)

-- `mbox-or-pat`
abbrev pub patterns : Rule Patterns
patterns = do
  parenthesis ← flag 40
  patterns_after parenthesis

-- ---- return options

abbrev pub list_return_after : ListReturnWord → Rule ListReturn
list_return_after word.Children = give option.Children
list_return_after word.Subscribed = give option.Subscribed
list_return_after word.Status = do space; items ← listed status_item; give (option.Status items)

-- `return-option`
abbrev pub list_return : Rule ListReturn
list_return = do
  name ← keyword is_astring_char list_return_name LIST_RETURN_WORDS
  list_return_after name

abbrev pub list_returns_after : Bool → Rule (Option (List ListReturn))
list_returns_after false = give None
list_returns_after true = do
  name ← keyword is_astring_char return_name RETURN_WORDS
  space
  all ← listed_or_none list_return
  give (Some all)

-- SP `list-return-opts`, or nothing
abbrev pub list_returns : Rule (Option (List ListReturn))
list_returns = do
  more ← flag 32
  list_returns_after more

abbrev pub list : Rule Command
list = do
  space
  selection ← selections
  reference ← astring
  space
  wanted ← patterns
  returns ← list_returns
  give (command.List selection reference wanted returns)

-- ---- as it is written

abbrev pub selection_fits : Option (List Selection) → Bool
selection_fits None = true
selection_fits (Some all) = may_be_selected all

-- `list-select-opts` and a space
abbrev pub selection_text : Option (List Selection) → List ℕ
selection_text None = []
selection_text (Some all) = (writing.listed_or_none (writing.word selection_name)).text all ++ 32 ∷ []

-- `list-mailbox`: a word with its wildcards as it is, all else as a string
abbrev pub pattern_writing : Writing (List ℕ)
pattern_writing = written.bare_or_string is_list_char

abbrev pub patterns_fit : Patterns → Bool
patterns_fit (One pattern) = pattern_writing.fits pattern
patterns_fit (Many all) = (writing.separated 32 pattern_writing).fits all

abbrev pub patterns_text : Patterns → List ℕ
patterns_text (One pattern) = pattern_writing.text pattern
patterns_text (Many all) = (writing.listed pattern_writing).text all

abbrev pub return_fits : ListReturn → Bool
return_fits option.Subscribed = true
return_fits option.Children = true
return_fits (option.Status items) = (writing.listed (writing.word status_name)).fits items

abbrev pub return_text : ListReturn → List ℕ
return_text option.Subscribed = codes "SUBSCRIBED"
return_text option.Children = codes "CHILDREN"
return_text (option.Status items) = codes "STATUS " ++ (writing.listed (writing.word status_name)).text items

abbrev pub list_return_writing : Writing ListReturn
list_return_writing = record { fits = return_fits; text = return_text }

abbrev pub returns_fit : Option (List ListReturn) → Bool
returns_fit None = true
returns_fit (Some all) = list_all return_fits all

abbrev pub returns_text : Option (List ListReturn) → List ℕ
returns_text None = []
returns_text (Some all) = codes " RETURN " ++ (writing.listed_or_none list_return_writing).text all

abbrev pub list_fits : Option (List Selection) → List ℕ → Patterns → Option (List ListReturn) → Bool
list_fits selection reference patterns returns =
    selection_fits selection
    && (written.string.fits reference && (patterns_fit patterns && returns_fit returns))

abbrev pub list_text : Option (List Selection) → List ℕ → Patterns → Option (List ListReturn) → List ℕ
list_text selection reference patterns returns =
    32 ∷ (selection_text selection
    ++ (written.astring.text reference ++ (32 ∷ (patterns_text patterns ++ returns_text returns))))
