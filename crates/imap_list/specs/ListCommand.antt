-- LIST and NAMESPACE (RFC 9051, sections 6.3.9 and 6.3.10).
use Rattle.std.specs.Prelude.{ℕ, Bool, true, false, not, ◌&&◌, ◌||◌, ◌==◌, List, [], ◌∷◌, length, flat_map}
use Rattle.std.specs.Prelude.{Option, Some, None, option_and_then, if◌then◌else◌}
use Rattle.std.specs.List.{list_any}
use Rattle.imap_answer.specs.Answer.{Answer, done_after, enabling, refusal}
use Rattle.imap_answer.specs.Name.{name_of_text}
use Rattle.imap_commands.specs.commands.List.{is_recursive, is_subscribed}
use Rattle.imap_commands.specs.declared.commands.list.ListReturn.{ListReturn}
use Rattle.imap_commands.specs.declared.commands.list.ListReturn.TheVariants as option
use Rattle.imap_commands.specs.declared.commands.list.Patterns.{Patterns}
use Rattle.imap_commands.specs.declared.commands.list.Patterns.TheVariants.{One, Many}
use Rattle.imap_commands.specs.declared.commands.list.Selection.{Selection}
use Rattle.imap_names.specs.Name.{is_empty}
use Rattle.imap_names.specs.Pattern.{pattern_read}
use Rattle.imap_names.specs.declared.token.Token.{Token}
use Rattle.imap_print.specs.declared.response.Refusal.TheVariants.{Cannot}
use Rattle.imap_print.specs.declared.response.Response.{Response}
use Rattle.imap_print.specs.declared.response.Response.TheVariants as response
use Rattle.imap_query.specs.declared.status.StatusItem.{StatusItem}
use Rattle.imap_view.specs.View.{View}
use Rattle.imap_listing.specs.declared.line.Line.{Line}
use Rattle.imap_listing.specs.ListLine.{list_line}
use Rattle.imap_listing.specs.Listing.{listing, subscribed_listing}
use Rattle.imap_list.specs.Status.{enabled_by, status_in}

-- the arguments of LIST
pub record ListArguments : Type 0 where
  pub selection : Option (List Selection)
  pub reference : List ℕ
  pub patterns : Patterns
  pub returns : Option (List ListReturn)

-- what is given, or nothing
abbrev pub given : {X : Type 0} → Option (List X) → List X
given None = []
given (Some items) = items

abbrev pub is_given : {X : Type 0} → Option X → Bool
is_given None = false
is_given (Some x) = true

abbrev pub are_many : Patterns → Bool
are_many (One pattern) = false
are_many (Many patterns) = true

abbrev pub texts_of : Patterns → List (List ℕ)
texts_of (One pattern) = pattern ∷ []
texts_of (Many patterns) = patterns

-- ---- options

abbrev pub returns_subscribed : ListReturn → Bool
returns_subscribed option.Subscribed = true
returns_subscribed option.Children = false
returns_subscribed (option.Status items) = false

abbrev pub status_items_of : ListReturn → List StatusItem
status_items_of option.Subscribed = []
status_items_of option.Children = []
status_items_of (option.Status items) = items

-- the numbers of each mailbox that are asked for (RFC 9051, section 6.3.9.2)
abbrev pub status_items : ListArguments → List StatusItem
status_items arguments = flat_map status_items_of (given arguments.returns)

-- subscribed names are listed in place of mailboxes
abbrev pub selects_subscribed : ListArguments → Bool
selects_subscribed arguments = list_any is_subscribed (given arguments.selection)

-- the attribute \Subscribed is shown
abbrev pub shows_subscribed : ListArguments → Bool
shows_subscribed arguments =
    selects_subscribed arguments || list_any returns_subscribed (given arguments.returns)

-- the selection RECURSIVEMATCH is not built
abbrev pub is_unbuilt : ListArguments → Bool
is_unbuilt arguments = list_any is_recursive (given arguments.selection)

-- the form of LIST with more than a reference and one pattern
abbrev pub is_extended : ListArguments → Bool
is_extended arguments =
    is_given arguments.selection || are_many arguments.patterns || is_given arguments.returns

-- an empty pattern asks for the delimiter and the root
abbrev pub asks_for_root : ListArguments → Bool
asks_for_root arguments = not (is_extended arguments) && list_any is_empty (texts_of arguments.patterns)

-- ---- lines

abbrev pub given_pattern : Option (List Token) → List (List Token)
given_pattern None = []
given_pattern (Some pattern) = pattern ∷ []

-- the pattern that a text is after the reference. An empty one, and one that isn't UTF-8, match nothing
abbrev pub pattern_of : (reference text : List ℕ) → List (List Token)
pattern_of reference text = if is_empty text then [] else given_pattern (pattern_read reference text)

abbrev pub patterns_of : ListArguments → List (List Token)
patterns_of arguments = flat_map (pattern_of arguments.reference) (texts_of arguments.patterns)

abbrev pub lines_of : View → ListArguments → List Line
lines_of view arguments =
    if selects_subscribed arguments then subscribed_listing view (patterns_of arguments)
    else listing view (patterns_of arguments)

-- a level of the hierarchy is no mailbox; a name that is subscribed to may be one without `l`
abbrev pub may_have_status : ListArguments → Line → Bool
may_have_status arguments line = line.is_there || selects_subscribed arguments

abbrev pub given_line : Option Response → List Response
given_line None = []
given_line (Some line) = line ∷ []

-- the numbers of the mailbox that the text means to the user, if the user may read it
abbrev pub status_of_text : View → List StatusItem → (text : List ℕ) → List Response
status_of_text view items text = given_line (option_and_then (status_in view items) (name_of_text view text))

abbrev pub status_after : View → ListArguments → Line → List Response
status_after view arguments line =
    if length (status_items arguments) == 0 then []
    else if may_have_status arguments line then status_of_text view (status_items arguments) line.name
    else []

-- a line, and after it the numbers of its mailbox
abbrev pub responses_of : View → ListArguments → Line → List Response
responses_of view arguments line =
    list_line (shows_subscribed arguments) line ∷ status_after view arguments line

abbrev pub list_responses : View → ListArguments → List Response
list_responses view arguments = flat_map (responses_of view arguments) (lines_of view arguments)

abbrev pub listing_answer : View → (tag : List ℕ) → ListArguments → Answer
listing_answer view tag arguments =
    enabling (enabled_by (status_items arguments)) (done_after (list_responses view arguments) tag)

abbrev pub list_answer : View → (tag : List ℕ) → ListArguments → Answer
list_answer view tag arguments =
    if is_unbuilt arguments then refusal tag Cannot
    else if asks_for_root arguments then done_after (response.ListRoot ∷ []) tag
    else listing_answer view tag arguments

-- NAMESPACE
abbrev pub namespace_answer : (tag : List ℕ) → Answer
namespace_answer tag = done_after (response.Namespace ∷ []) tag
