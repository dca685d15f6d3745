-- The mailbox name of a command.
use Rattle.std.specs.Prelude.{ℕ, List, Option, Some, None, Result, Ok, Err}
use Rattle.imap_names.specs.Name.{Name}
use Rattle.imap_names.specs.Reading.{name_read}
use Rattle.imap_names.specs.declared.error.NameError.{NameError}
use Rattle.imap_print.specs.declared.response.Refusal.TheVariants.{NonExistent}
use Rattle.imap_view.specs.View.{View}
use Rattle.imap_answer.specs.Answer.{Answer, refusal}

abbrev pub if_read : Result Name NameError → Option Name
if_read (Ok name) = Some name
if_read (Err error) = None

-- the name that a text means to the user, if it means one
abbrev pub name_of_text : View → (mailbox : List ℕ) → Option Name
name_of_text view mailbox = if_read (name_read view.user mailbox)

abbrev pub answer_of_name : (tag : List ℕ) → (Name → Answer) → Option Name → Answer
answer_of_name tag answer None = refusal tag NonExistent
answer_of_name tag answer (Some name) = answer name

-- the answer for the name that a text means to the user. What means none is no mailbox
abbrev pub if_named : View → (tag mailbox : List ℕ) → (Name → Answer) → Answer
if_named view tag mailbox answer = answer_of_name tag answer (name_of_text view mailbox)
