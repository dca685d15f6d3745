use Rattle.std.proofs.Common.{◌≡◌, sym, ap, ◌∙◌}
use Rattle.imap_world.specs.Rights.{bits}
use Rattle.imap_world.specs.Effective.{effective}
use Rattle.imap_world.specs.Mailbox.{plain}
use Rattle.imap_world.specs.Stored.{world_of}
use Rattle.imap_view.specs.Seen.{owner_by_root, owner_of}
use Rattle.imap_view.proofs.Views.{hidden_is_unseen, named, visible_is_seen}
use Rattle.imap_view.proofs.view.View.seen_of.Goals as goal

pub returns-then-show_mailbox : goal.returns-then-show_mailbox
returns-then-show_mailbox c =
    let site = c.self.inside.site.now in
    let acl = c.args.mailbox.now.acl in
    let owner : c.owner_by_root-owner.result.now ≡ owner_of site c.args.name.now = c.owner_by_root-owner.ensures ∙ ap (owner_by_root site) c.root.ensures.root in
    let held : bits c.effective-rights.result ≡ effective c.self.inside.user.now (owner_of site c.args.name.now) site.groups acl =
    c.effective-rights.ensures ∙ λ i. effective (c.as_str.ensures.text i) (owner i) (c.groups-groups.ensures i) acl in
    sym (visible_is_seen site c.self.inside.user.now (world_of c.self.inside.world.now) c.args.self.now c.self.view_is c.args.name.now (plain c.args.mailbox.now) (named c.args.name.now c.root.ensures.valid) (bits c.effective-rights.result) held (sym c.show_mailbox.ensures ∙ c.if-show_mailbox.true))

pub returns-else-show_mailbox : goal.returns-else-show_mailbox
returns-else-show_mailbox c =
    let site = c.self.inside.site.now in
    let acl = c.args.mailbox.now.acl in
    let owner : c.owner_by_root-owner.result.now ≡ owner_of site c.args.name.now = c.owner_by_root-owner.ensures ∙ ap (owner_by_root site) c.root.ensures.root in
    let held : bits c.effective-rights.result ≡ effective c.self.inside.user.now (owner_of site c.args.name.now) site.groups acl =
    c.effective-rights.ensures ∙ λ i. effective (c.as_str.ensures.text i) (owner i) (c.groups-groups.ensures i) acl in
    sym (hidden_is_unseen site c.self.inside.user.now (world_of c.self.inside.world.now) c.args.self.now c.self.view_is c.args.name.now (plain c.args.mailbox.now) (named c.args.name.now c.root.ensures.valid) (bits c.effective-rights.result) held (sym c.show_mailbox.ensures ∙ c.if-show_mailbox.false))
