-- RENAME (RFC 9051, section 6.3.6; RFC 4314, section 4).
use Rattle.std.specs.Prelude.{ℕ, List, Option, not, Result, Ok, Err, if◌then◌else◌}
use Rattle.imap_answer.specs.Answer.{Answer, done_with, refusal}
use Rattle.imap_answer.specs.Name.{if_named}
use Rattle.imap_name_map.specs.Rows.{has_within}
use Rattle.imap_names.specs.Name.{Name}
use Rattle.imap_print.specs.declared.response.Refusal.{Refusal}
use Rattle.imap_print.specs.declared.response.Refusal.TheVariants.{AlreadyExists, Cannot, InUse, Limit, NoPerm}
use Rattle.imap_rights.specs.Rights.{delete_mailbox, has_any}
use Rattle.imap_view.specs.RenameAfter.{can_all_arrive}
use Rattle.imap_view.specs.Seen.{owner_of}
use Rattle.imap_view.specs.View.{View, may_create, rights_in}
use Rattle.imap_world.specs.declared.effect.Effect.TheVariants.{Rename}
use Rattle.imap_world.specs.Moving.{can_move}
use Rattle.imap_answer.specs.Access.{missing_right_refusal}
use Rattle.imap_tree.specs.NewName.{new_name_read}
use Rattle.imap_tree.specs.Selected.{is_selected}

-- All below the mailbox moves with it, what the user doesn't see too. It isn't the one that the session has
-- selected, nor above that.
abbrev pub rename_of_names : View → (selected : Option Name) → (tag : List ℕ) → (old new : Name) → Answer
rename_of_names view selected tag old new =
    if not (has_any (rights_in view old) delete_mailbox)
    then refusal tag (missing_right_refusal (rights_in view old))
    else if not (can_move old new) then refusal tag Cannot
    else if is_selected selected old then refusal tag InUse
    else if not (may_create view new) then refusal tag NoPerm
    else if has_within new view.taken then refusal tag AlreadyExists
    else if can_all_arrive view old new
    then done_with tag (Rename (owner_of view.site new) old new)
    else refusal tag Limit

abbrev pub rename_to : View → (selected : Option Name) → (tag : List ℕ) → (old : Name) →
    Result Name Refusal → Answer
rename_to view selected tag old (Err reason) = refusal tag reason
rename_to view selected tag old (Ok new) = rename_of_names view selected tag old new

abbrev pub rename_of_name : View → (selected : Option Name) → (tag new : List ℕ) → (old : Name) → Answer
rename_of_name view selected tag new old = rename_to view selected tag old (new_name_read view.user new)

-- RENAME of a mailbox to a new name, in a session that has selected `selected`
abbrev pub rename_answer : View → (selected : Option Name) → (tag old new : List ℕ) → Answer
rename_answer view selected tag old new = if_named view tag old (rename_of_name view selected tag new)
