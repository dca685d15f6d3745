use Rattle.std.proofs.Common.{◌≡◌, Some, None, sym, ap, ◌∙◌}
use Rattle.std.specs.Prelude.{option_map}
use Rattle.std.specs.FinMap as map
use Rattle.imap_world.specs.Mailbox.{plain, plain_lent}
use Rattle.imap_world.specs.Stored.{world_of}
use Rattle.imap_view.specs.Seen.{shown}
use Rattle.imap_view.specs.View.{View}
use Rattle.imap_view.proofs.Views.{absent_is_unseen, seen_there}
use Rattle.imap_view.proofs.view.View.seen.Goals as goal

pub returns-in_err-mailbox : goal.returns-in_err-mailbox
returns-in_err-mailbox c =
    let world = world_of c.self.inside.world.now in
    let absent : map.get world.mailboxes c.args.name.now ≡ None = sym c.mailbox.ensures.there ∙ ap plain_lent c.in_err-mailbox.was in
    ap (option_map shown) c.from_residual.ensures ∙ sym (absent_is_unseen c.self.inside.site.now c.self.inside.user.now world c.args.name.now absent)
    ∙ ap (λ (v : View). map.get v.seen c.args.name.now) c.self.view_is

pub returns : goal.returns
returns c =
    let world = world_of c.self.inside.world.now in
    let there : map.get world.mailboxes c.args.name.now ≡ Some (plain c.in_ok-mailbox.field-0.now) = sym c.mailbox.ensures.there ∙ ap plain_lent c.in_ok-mailbox.was in
    c.seen_of.ensures
    ∙ seen_there c.self.inside.site.now c.self.inside.user.now world c.args.self.now c.self.view_is c.args.name.now (plain c.in_ok-mailbox.field-0.now) there
