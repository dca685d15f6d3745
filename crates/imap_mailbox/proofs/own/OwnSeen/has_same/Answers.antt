use Rattle.std.proofs.Common.{◌≡◌, ◌↔◌, IsTrue, ap, subst}
use Rattle.imap_mailbox.specs.Latest.{own_in}
use Rattle.imap_mailbox.specs.Owned.{Owned}
use Rattle.imap_mailbox.proofs.OwnTables.{same_own}
use Rattle.imap_mailbox.proofs.own.OwnSeen.has_same.Goals as goal

pub returns-then-is_same : goal.returns-then-is_same
returns-then-is_same c =
    let mine = ap (λ (o : Owned). o.own) c.self.view_is in
    let theirs = ap (λ (o : Owned). o.own) c.other.view_is in
    let both = same_own c.self.inside.befores.befores c.other.inside.befores.befores c.self.inside.latest.items c.other.inside.latest.items c.are_same.result
    c.self.invariant.rising c.other.invariant.rising (c.is_same.ensures.0 c.if-is_same.true)
    (subst (λ l. IsTrue c.are_same.result ↔ (l ≡ c.other.inside.latest.items)) c.deref.ensures.value
    (subst (λ l. IsTrue c.are_same.result ↔ (c.deref.result.now ≡ l)) c.deref-then-is_same.ensures.value c.are_same.ensures)) in
    subst (λ o. IsTrue c.are_same.result ↔ (o ≡ c.args.other.now.own)) mine
    (subst (λ o. IsTrue c.are_same.result ↔ (own_in c.self.inside.befores.befores c.self.inside.latest.items ≡ o)) theirs both)
