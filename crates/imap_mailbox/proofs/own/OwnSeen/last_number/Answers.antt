use Rattle.std.proofs.Common.{◌-◌, ◌≤◌, length, sym, ap, subst, ◌∙◌, arith}
use Rattle.imap_modseq.specs.Numbers.{max_events, own_number_at}
use Rattle.imap_mailbox.specs.Latest.{own_in}
use Rattle.imap_mailbox.specs.Own.{Own}
use Rattle.imap_mailbox.specs.Owned.{Owned}
use Rattle.imap_mailbox.specs.Summary.{latest, latest_number}
use Rattle.imap_mailbox.proofs.Last.{latest_below_last, latest_of_none}
use Rattle.imap_mailbox.proofs.own.OwnSeen.last_number.Goals as goal

pub returns-then-len-eq0 : goal.returns-then-len-eq0
returns-then-len-eq0 c = λ uid.
    let own = own_in c.self.inside.befores.befores c.self.inside.latest.items in
    let view = ap (λ (o : Owned). o.own) c.self.view_is in
    subst (λ o. latest_number (latest uid o) ≤ 0) view (latest_of_none uid own c.self.invariant.last (omega (arith, c.len-len.ensures, c.if-len-eq0.true)))

pub returns-else-len-eq0 : goal.returns-else-len-eq0
returns-else-len-eq0 c = λ uid.
    let own = own_in c.self.inside.befores.befores c.self.inside.latest.items in
    let view = ap (λ (o : Owned). o.own) c.self.view_is in
    let len = c.len-len.ensures ∙ ap (λ (o : Own). length o.befores) view in
    let bound = subst (λ (o : Own). latest_number (latest uid o) ≤ own_number_at o.befores (length o.befores - 1)) view
    (latest_below_last max_events uid own c.self.invariant.order c.self.invariant.last (omega (arith, c.len-len.ensures, c.if-len-eq0.false))) in
    subst (λ n. latest_number (latest uid c.args.self.now.own) ≤ n) (sym (c.number_of.ensures.number ∙ ap (λ n. own_number_at c.args.self.now.own.befores (n - 1)) len)) bound
