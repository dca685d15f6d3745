use Rattle.std.proofs.Common.{◌<◌, ◌++◌, ◌∷◌, [], length, sym, ap, subst, ◌∙◌}
use Rattle.std.specs.FinMap.{get}
use Rattle.imap_mailbox.specs.KeptRows.{place_if_free}
use Rattle.imap_mailbox.specs.Latest.{last_in, own_in}
use Rattle.imap_mailbox.specs.Own.{Own}
use Rattle.imap_mailbox.specs.Owned.{Owned}
use Rattle.imap_mailbox.proofs.OwnTables.{last_small}
use Rattle.imap_mailbox.proofs.TableOfLast.{get_latest}
use Rattle.imap_mailbox.proofs.own.OwnSeen.dropped_by.Goals as goal

pub place_if_free-requires-clause-there : goal.place_if_free-requires-clause-there
place_if_free-requires-clause-there c =
    let own = own_in c.self.inside.befores.befores c.self.inside.latest.items in
    let view = ap (λ (o : Owned). o.own) c.self.view_is in
    let found = get_latest c.self.inside.latest.items c.args.uid ∙ ap (last_in c.args.uid) (sym c.deref.ensures.value) ∙ sym c.last_of.ensures in
    subst (λ (o : Own). c.in-Some.last.place < length o.befores) view
    (last_small own c.self.inside.latest.items c.self.inside.seen c.self.inside.recent c.self.invariant c.args.uid c.in-Some.last (found ∙ c.in-Some.is)).2

pub place_if_free-requires-clause-few : goal.place_if_free-requires-clause-few
place_if_free-requires-clause-few c =
    let own = own_in c.self.inside.befores.befores c.self.inside.latest.items in
    let found = get_latest c.self.inside.latest.items c.args.uid ∙ ap (last_in c.args.uid) (sym c.deref.ensures.value) ∙ sym c.last_of.ensures in
    (last_small own c.self.inside.latest.items c.self.inside.seen c.self.inside.recent c.self.invariant c.args.uid c.in-Some.last (found ∙ c.in-Some.is)).1

pub returns-in-Some : goal.returns-in-Some
returns-in-Some c =
    let view = ap (λ (o : Owned). get o.own.latest c.args.uid) c.self.view_is in
    let found = get_latest c.self.inside.latest.items c.args.uid ∙ ap (last_in c.args.uid) (sym c.deref.ensures.value) ∙ sym c.last_of.ensures in
    c.place_if_free.ensures ∙ ap (place_if_free (c.args.self.now.own.befores ++ c.args.before ∷ [])) (sym (found ∙ c.in-Some.is) ∙ view)

pub returns-in-None : goal.returns-in-None
returns-in-None c =
    let view = ap (λ (o : Owned). get o.own.latest c.args.uid) c.self.view_is in
    let found = get_latest c.self.inside.latest.items c.args.uid ∙ ap (last_in c.args.uid) (sym c.deref.ensures.value) ∙ sym c.last_of.ensures in
    ap (place_if_free (c.args.self.now.own.befores ++ c.args.before ∷ [])) (sym (found ∙ c.in-None.is) ∙ view)
