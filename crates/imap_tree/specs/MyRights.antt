-- MYRIGHTS (RFC 4314, section 3.5). A mailbox that isn't there and one that isn't seen are answered
-- alike (section 6).
use Rattle.std.specs.Prelude.{ℕ, List, [], ◌∷◌, Option, Some, None}
use Rattle.std.specs.FinMap as map
use Rattle.imap_answer.specs.Answer.{Answer, done_after, refusal}
use Rattle.imap_answer.specs.Name.{if_named}
use Rattle.imap_names.specs.Name.{Name}
use Rattle.imap_names.specs.Showing.{shown}
use Rattle.imap_print.specs.declared.response.Response.TheVariants as response
use Rattle.imap_print.specs.declared.response.Refusal.TheVariants.{NonExistent}
use Rattle.imap_view.specs.Seen.{Seen}
use Rattle.imap_view.specs.View.{View}

-- by what the user sees there
abbrev pub my_rights_of_seen : (user tag : List ℕ) → Name → Option Seen → Answer
my_rights_of_seen user tag name None = refusal tag NonExistent
my_rights_of_seen user tag name (Some seen) =
    done_after (response.MyRights (shown user name) (record { 0 = seen.rights }) ∷ []) tag

abbrev pub my_rights_of_name : View → (tag : List ℕ) → Name → Answer
my_rights_of_name view tag name = my_rights_of_seen view.user tag name (map.get view.seen name)

abbrev pub my_rights_answer : View → (tag mailbox : List ℕ) → Answer
my_rights_answer view tag mailbox = if_named view tag mailbox (my_rights_of_name view tag)
