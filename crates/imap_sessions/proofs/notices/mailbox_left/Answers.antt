use Rattle.std.proofs.Common.{◌∙◌, IfSome, Option, sym, ap, subst}
use Rattle.std.specs.Prelude.{option_map}
use Rattle.imap_session.specs.State.{selection_of, state_of}
use Rattle.imap_session.specs.Told.{IsInStepIfSelected}
use Rattle.imap_upcoming.specs.declared.upcoming.Upcoming.{Upcoming}
use Rattle.imap_upcoming.specs.Readable.{readable}
use Rattle.imap_view.specs.View.{view_of}
use Rattle.imap_world.specs.Effects.{after_writes}
use Rattle.imap_world.specs.Stored.{world_of}
use Rattle.imap_sessions.proofs.MailboxLeft.{left_in_step, left_is, none_left, there}
use Rattle.imap_sessions.proofs.notices.mailbox_left.Goals as goal

pub after-mailbox-requires-clause-there : goal.after-mailbox-requires-clause-there
after-mailbox-requires-clause-there c =
    let planned = c.args.planned.now in
    there planned.site.now planned.user.now (world_of planned.world.now) planned.change.now (state_of c.args.session.now) c.requires (selection_of c.in-Some.selected) (ap (option_map selection_of) c.in-Some.is)

pub returns-in-Some-clause-mailbox : goal.returns-in-Some-clause-mailbox
returns-in-Some-clause-mailbox c =
    let planned = c.args.planned.now in
    let view = view_of planned.site.now planned.user.now (after_writes planned.change.now (world_of planned.world.now)) in
    ap (option_map readable) c.unless_other.ensures
    ∙ left_is view (state_of c.args.session.now) (selection_of c.in-Some.selected) c.after-mailbox.result (ap (option_map selection_of) c.in-Some.is) c.after-mailbox.ensures.readable

pub returns-in-Some-clause-step : goal.returns-in-Some-clause-step
returns-in-Some-clause-step c =
    let planned = c.args.planned.now in
    let own = state_of c.args.session.now in
    subst (λ (m : Option Upcoming). IfSome m (λ u. IsInStepIfSelected u.highest u.messages own.selected)) (sym c.unless_other.ensures)
    (left_in_step planned.site.now planned.user.now (world_of planned.world.now) planned.change.now own c.requires (selection_of c.in-Some.selected) c.after-mailbox.result (ap (option_map selection_of) c.in-Some.is)
    c.after-mailbox.ensures.readable c.after-mailbox.ensures.uids)

pub returns-in-None-clause-mailbox : goal.returns-in-None-clause-mailbox
returns-in-None-clause-mailbox c =
    let planned = c.args.planned.now in
    none_left (view_of planned.site.now planned.user.now (after_writes planned.change.now (world_of planned.world.now))) (state_of c.args.session.now) (ap (option_map selection_of) c.in-None.is)
