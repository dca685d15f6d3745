use Rattle.std.proofs.Common.{option_map, sym, ap, ◌∙◌}
use Rattle.imap_mailbox.specs.Latest.{last_in, own_in}
use Rattle.imap_mailbox.specs.Owned.{Owned}
use Rattle.imap_mailbox.specs.Summary.{latest, shown}
use Rattle.imap_mailbox.proofs.OwnTables.{last_small}
use Rattle.imap_mailbox.proofs.TableOfLast.{get_latest}
use Rattle.imap_mailbox.proofs.own.OwnSeen.latest.Goals as goal

pub shown-requires : goal.shown-requires
shown-requires c = λ k e.
    let own = own_in c.self.inside.befores.befores c.self.inside.latest.items in
    let found = get_latest c.self.inside.latest.items c.args.uid ∙ ap (last_in c.args.uid) (sym c.deref.ensures.value) ∙ sym c.last_of.ensures in
    let small = last_small own c.self.inside.latest.items c.self.inside.seen c.self.inside.recent c.self.invariant c.args.uid k (found ∙ e) in
    (small.0, small.1)

pub returns : goal.returns
returns c =
    let found = get_latest c.self.inside.latest.items c.args.uid ∙ ap (last_in c.args.uid) (sym c.deref.ensures.value) ∙ sym c.last_of.ensures in
    c.shown.ensures ∙ ap (option_map shown) (sym found) ∙ ap (λ (o : Owned). latest c.args.uid o.own) c.self.view_is
