-- DELETE (RFC 9051, section 6.3.5; RFC 4314, section 4).
use Rattle.std.specs.Prelude.{ℕ, List, Option, not, if◌then◌else◌}
use Rattle.imap_answer.specs.Answer.{Answer, done_with, refusal}
use Rattle.imap_answer.specs.Name.{if_named}
use Rattle.imap_names.specs.Name.{Name, is_inbox}
use Rattle.imap_name_map.specs.Rows.{has_below}
use Rattle.imap_print.specs.declared.response.Refusal.TheVariants.{Cannot, HasChildren, InUse}
use Rattle.imap_rights.specs.Rights.{delete_mailbox, has_any}
use Rattle.imap_view.specs.View.{View, rights_in}
use Rattle.imap_world.specs.declared.effect.Effect.TheVariants.{Delete}
use Rattle.imap_answer.specs.Access.{missing_right_refusal}
use Rattle.imap_tree.specs.Selected.{is_selected}

-- No INBOX is deleted, no mailbox that the session has selected or that is above the selected one, and no
-- mailbox that has names below it.
abbrev pub delete_of_name : View → (selected : Option Name) → (tag : List ℕ) → Name → Answer
delete_of_name view selected tag name =
    if not (has_any (rights_in view name) delete_mailbox)
    then refusal tag (missing_right_refusal (rights_in view name))
    else if is_inbox name then refusal tag Cannot
    else if is_selected selected name then refusal tag InUse
    else if has_below name view.taken then refusal tag HasChildren
    else done_with tag (Delete name)

-- DELETE of a mailbox, as it is named, in a session that has selected `selected`
abbrev pub delete_answer : View → (selected : Option Name) → (tag mailbox : List ℕ) → Answer
delete_answer view selected tag mailbox = if_named view tag mailbox (delete_of_name view selected tag)
