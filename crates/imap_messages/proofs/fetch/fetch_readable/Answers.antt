use Rattle.std.proofs.Common.{◌≡◌, ◌∙◌, ap, sym, subst, Option}
use Rattle.std.specs.Prelude.{IfOk, IfSome, is_none}
use Rattle.imap_answer.specs.Answer.{Answer}
use Rattle.imap_mailbox.specs.Rows.{first_uid}
use Rattle.imap_targets.specs.State.{selection_of}
use Rattle.imap_view.specs.View.{View}
use Rattle.imap_messages.specs.declared.reading.Reading.{Reading}
use Rattle.imap_messages.specs.Fetch.{FetchArguments, sets_seen}
use Rattle.imap_messages.specs.Changed.{changed_of}
use Rattle.imap_targets.specs.Spans.{named_in}
use Rattle.imap_messages.specs.Found.{IsReading}
use Rattle.imap_targets.specs.MessageNumbers.{last_of, ranges_of}
use Rattle.imap_messages.proofs.Answering.{answer_is, told_rise}
use Rattle.imap_messages.proofs.fetch.fetch_readable.Goals as goal

pub read_messages-requires-clause-order : goal.read_messages-requires-clause-order
read_messages-requires-clause-order c = (first_uid, c.args.mailbox.now.next_uid, c.requires.order.uids)

pub answer_of_changed-requires-clause-told : goal.answer_of_changed-requires-clause-told
answer_of_changed-requires-clause-told c =
    let s = selection_of c.args.selected.now in
    let known = c.args.selected.now.known.list in
    let mailbox = c.args.mailbox.now in
    let by_is = ap (λ (f : FetchArguments). f.numbering) c.arguments.view_is in
    let last_is = c.last_of.ensures ∙ ap (λ (f : FetchArguments). last_of f.numbering mailbox.next_uid known) c.arguments.view_is in
    let ranges_is = c.ranges_of.ensures ∙ ap (λ (f : FetchArguments). ranges_of f.messages) c.arguments.view_is in
    let since_is = ap (λ (f : FetchArguments). f.changed_since) c.arguments.view_is in
    let wanted_is = c.in_ok-wanted.ensures in
    let sets_is = c.sets_seen-sets.ensures ∙ ap (λ (view : View). sets_seen view s c.args.arguments.now) c.view.ensures in
    let read = subst (λ (o : Option Reading). IfSome o (IsReading c.in_ok-wanted.wanted c.sets_seen-sets.result mailbox
    (changed_of c.arguments.inside.changed_since mailbox.rows (named_in (record { numbering = c.arguments.inside.numbering; last = c.last_of.result; ranges = c.ranges_of.result }) known)))) c.in-Some.is c.in_ok-reading.ensures.read in
    told_rise c.args.context.now.view c.args.enabled c.args.context.now.tag c.args.arguments.now s mailbox c.requires.order c.in_ok-reading.ensures.known
    c.arguments.inside.numbering c.last_of.result c.ranges_of.result.now c.arguments.inside.changed_since c.in_ok-wanted.wanted c.sets_seen-sets.result by_is last_is ranges_is since_is wanted_is sets_is
    c.in-Some.reading read

pub returns-in-Some : goal.returns-in-Some
returns-in-Some c =
    let s = selection_of c.args.selected.now in
    let known = c.args.selected.now.known.list in
    let mailbox = c.args.mailbox.now in
    let by_is = ap (λ (f : FetchArguments). f.numbering) c.arguments.view_is in
    let last_is = c.last_of.ensures ∙ ap (λ (f : FetchArguments). last_of f.numbering mailbox.next_uid known) c.arguments.view_is in
    let ranges_is = c.ranges_of.ensures ∙ ap (λ (f : FetchArguments). ranges_of f.messages) c.arguments.view_is in
    let since_is = ap (λ (f : FetchArguments). f.changed_since) c.arguments.view_is in
    let wanted_is = c.in_ok-wanted.ensures in
    let sets_is = c.sets_seen-sets.ensures ∙ ap (λ (view : View). sets_seen view s c.args.arguments.now) c.view.ensures in
    let refused = sym (ap is_none c.in-Some.is) ∙ c.in_ok-reading.ensures.refused in
    let read = subst (λ (o : Option Reading). IfSome o (IsReading c.in_ok-wanted.wanted c.sets_seen-sets.result mailbox
    (changed_of c.arguments.inside.changed_since mailbox.rows (named_in (record { numbering = c.arguments.inside.numbering; last = c.last_of.result; ranges = c.ranges_of.result }) known)))) c.in-Some.is c.in_ok-reading.ensures.read in
    subst (λ (answer : Answer). IfOk c.answer_of_changed.result (λ given. given ≡ answer))
    (answer_is c.args.context.now.view c.args.enabled c.args.context.now.tag c.args.arguments.now s mailbox c.requires.order c.in_ok-reading.ensures.known
    c.arguments.inside.numbering c.last_of.result c.ranges_of.result.now c.arguments.inside.changed_since c.in_ok-wanted.wanted c.sets_seen-sets.result by_is last_is ranges_is since_is wanted_is sets_is
    c.in-Some.reading refused read)
    c.answer_of_changed.ensures
