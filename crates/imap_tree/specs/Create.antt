-- CREATE (RFC 9051, section 6.3.4; RFC 4314, section 4).
use Rattle.std.specs.Prelude.{ℕ, ◌-◌, List, codes, length, take, nat_eq, not, Result, Ok, Err, if◌then◌else◌}
use Rattle.std.specs.FinMap as map
use Rattle.std.specs.List.{ends_with}
use Rattle.imap_answer.specs.Answer.{Answer, done_with, refusal}
use Rattle.imap_names.specs.Name.{Name}
use Rattle.imap_print.specs.declared.response.Refusal.{Refusal}
use Rattle.imap_print.specs.declared.response.Refusal.TheVariants.{AlreadyExists, Limit, NoPerm}
use Rattle.imap_view.specs.Seen.{owner_of}
use Rattle.imap_view.specs.TreeAfter.{missing_in, validities_left}
use Rattle.imap_view.specs.View.{View, may_create}
use Rattle.imap_world.specs.declared.effect.Effect.TheVariants.{Create}
use Rattle.imap_tree.specs.NewName.{new_name_read}

-- one delimiter at the end says only that there will be names below
abbrev pub without_delimiter : List ℕ → List ℕ
without_delimiter text = if ends_with nat_eq text (codes "/") then take (length text - 1) text else text

-- The superiors that aren't there are made, too, and each needs a UIDVALIDITY.
abbrev pub create_of_name : View → (tag : List ℕ) → Name → Answer
create_of_name view tag name =
    if not (may_create view name) then refusal tag NoPerm
    else if map.contains_key view.taken name then refusal tag AlreadyExists
    else if validities_left view (missing_in view name)
    then done_with tag (Create (owner_of view.site name) name)
    else refusal tag Limit

abbrev pub create_of : View → (tag : List ℕ) → Result Name Refusal → Answer
create_of view tag (Err reason) = refusal tag reason
create_of view tag (Ok name) = create_of_name view tag name

abbrev pub create_answer : View → (tag mailbox : List ℕ) → Answer
create_answer view tag mailbox = create_of view tag (new_name_read view.user (without_delimiter mailbox))
