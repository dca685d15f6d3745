use Rattle.std.proofs.Common.{ap, subst}
use Rattle.imap_mailbox.specs.Latest.{own_in}
use Rattle.imap_mailbox.specs.Own.{Own}
use Rattle.imap_mailbox.specs.Owned.{Owned}
use Rattle.imap_mailbox.proofs.LatestUids.{IsAmongLate, late_among}
use Rattle.imap_mailbox.proofs.OwnTables.{if_some}
use Rattle.imap_mailbox.proofs.own.OwnSeen.since.Goals as goal

pub returns : goal.returns
returns c =
    if_some c.since.result _ _ _ (λ uids found number uid.
    let own = own_in c.self.inside.befores.befores c.self.inside.latest.items in
    let view = ap (λ (o : Owned). o.own) c.self.view_is in
    subst (λ (o : Own). IsAmongLate number uid c.args.place uids.now o) view (late_among own c.self.inside.latest.items c.self.inside.seen c.self.inside.recent c.self.invariant uids.now c.args.place found.0 found.1 number uid)) c.since.ensures
