use Rattle.std.proofs.Common.{◌≡◌, length, refl, sym, ap, subst, ◌∙◌}
use Rattle.std.proofs.lemmas.Bool.{eqb-true, eq-eqb}
use Rattle.imap_mailbox.specs.Latest.{own_in}
use Rattle.imap_mailbox.specs.Own.{Own, no_own}
use Rattle.imap_mailbox.specs.Owned.{Owned}
use Rattle.imap_mailbox.proofs.OwnTables.{none_own}
use Rattle.imap_mailbox.proofs.own.OwnSeen.is_empty.Goals as goal

pub returns : goal.returns
returns c =
    let own = own_in c.self.inside.befores.befores c.self.inside.latest.items in
    let view = ap (λ (o : Owned). o.own) c.self.view_is in
    let len = c.len.ensures ∙ ap (λ (o : Own). length o.befores) view in (
      λ is. subst (λ o. o ≡ no_own) view
          (none_own own c.self.inside.latest.items c.self.inside.seen c.self.inside.recent refl c.self.invariant (sym c.len.ensures ∙ eqb-true c.len.result 0 is)),
      λ none. eq-eqb c.len.result 0 (len ∙ ap (λ (o : Own). length o.befores) none),
    )
