-- SUBSCRIBE and UNSUBSCRIBE (RFC 9051, sections 6.3.7 and 6.3.8).
use Rattle.std.specs.Prelude.{ℕ, Bool, false, not, nat_le, List, Option, Some, None, if◌then◌else◌}
use Rattle.std.specs.FinMap as map
use Rattle.imap_answer.specs.Answer.{Answer, done, done_with, refusal}
use Rattle.imap_answer.specs.Name.{if_named}
use Rattle.imap_names.specs.Name.{Name}
use Rattle.imap_print.specs.declared.response.Refusal.TheVariants.{Limit, NonExistent}
use Rattle.imap_view.specs.Seen.{Seen}
use Rattle.imap_view.specs.View.{View}
use Rattle.imap_world.specs.declared.effect.Effect.TheVariants.{Subscribe, Unsubscribe}
use Rattle.imap_listing.specs.ViewNames.{is_listable}

-- the most names that a user may have subscribed to
abbrev pub max_subscriptions : ℕ
max_subscriptions = 1000

-- whether the user holds `l` on the mailbox
abbrev pub is_listed : Option Seen → Bool
is_listed None = false
is_listed (Some seen) = is_listable seen

-- SUBSCRIBE of a name. A mailbox on which the user doesn't hold `l` is answered as one that isn't there.
-- A name that is subscribed already stays so.
abbrev pub subscribe_of_name : View → (tag : List ℕ) → Name → Answer
subscribe_of_name view tag name =
    if not (is_listed (map.get view.seen name)) then refusal tag NonExistent
    else if map.contains_key view.subscribed name then done tag
    else if nat_le max_subscriptions (map.len view.subscribed) then refusal tag Limit
    else done_with tag (Subscribe view.user name)

-- UNSUBSCRIBE of a name, which need not be there
abbrev pub unsubscribe_of_name : View → (tag : List ℕ) → Name → Answer
unsubscribe_of_name view tag name =
    if map.contains_key view.subscribed name then done_with tag (Unsubscribe view.user name) else done tag

abbrev pub subscribe_answer : View → (tag mailbox : List ℕ) → Answer
subscribe_answer view tag mailbox = if_named view tag mailbox (subscribe_of_name view tag)

abbrev pub unsubscribe_answer : View → (tag mailbox : List ℕ) → Answer
unsubscribe_answer view tag mailbox = if_named view tag mailbox (unsubscribe_of_name view tag)
