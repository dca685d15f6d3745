use Rattle.std.proofs.Common.{◌<◌, ◌≤◌, length, sym, ap, subst, ◌∙◌}
use Rattle.imap_modseq.specs.Numbers.{max_events, own_number, own_number_at}
use Rattle.imap_mailbox.specs.Latest.{own_in}
use Rattle.imap_mailbox.specs.Own.{Own}
use Rattle.imap_mailbox.specs.Owned.{Owned}
use Rattle.imap_mailbox.proofs.Last.{numbers_rise}
use Rattle.imap_mailbox.proofs.OwnTables.{before_small}
use Rattle.imap_mailbox.proofs.own.OwnSeen.number_of.Goals as goal

pub number_after-requires-clause-shared : goal.number_after-requires-clause-shared
number_after-requires-clause-shared c =
    let own = own_in c.self.inside.befores.befores c.self.inside.latest.items in
    let view = ap (λ (o : Owned). o.own) c.self.view_is in
    let lt = subst (λ (o : Own). c.args.place < length o.befores) (sym view) c.requires in
    subst (λ n. n ≤ max_events) (sym c.before-2.ensures) (before_small own c.self.inside.latest.items c.self.inside.seen c.self.inside.recent c.self.invariant c.args.place lt)

pub returns-clause-rise : goal.returns-clause-rise
returns-clause-rise c = λ earlier le.
    let own = own_in c.self.inside.befores.befores c.self.inside.latest.items in
    let view = ap (λ (o : Owned). o.own) c.self.view_is in
    let lt = subst (λ (o : Own). c.args.place < length o.befores) (sym view) c.requires in
    let number = c.number_after.ensures ∙ ap (λ b. own_number b c.args.place) c.before-2.ensures ∙ ap (λ (o : Own). own_number_at o.befores c.args.place) view in
    subst (λ n. own_number_at c.args.self.now.own.befores earlier ≤ n) (sym number)
    (subst (λ (o : Own). own_number_at o.befores earlier ≤ own_number_at o.befores c.args.place) view
    (numbers_rise max_events earlier c.args.place own.befores c.self.invariant.order le lt))
