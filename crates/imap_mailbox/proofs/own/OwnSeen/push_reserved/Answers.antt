use Rattle.std.proofs.Common.{◌+◌, ◌-◌, ◌≤◌, length, sym, ap, subst, ◌∙◌, rules}
use Rattle.imap_modseq.specs.Merge.{AreInOrder}
use Rattle.imap_mailbox.specs.Latest.{own_in}
use Rattle.imap_mailbox.specs.Own.{Own, with_kept}
use Rattle.imap_mailbox.specs.Owned.{Owned}
use Rattle.imap_mailbox.proofs.OwnTables.{kept_seen, own_made}
use Rattle.imap_mailbox.proofs.own.OwnSeen.push_reserved.Goals as goal

pub invariant_of-self : goal.invariant_of-self
invariant_of-self c =
    let change = c.args.change in
    let bs = c.self.inside.befores.befores in
    let table = c.self.inside.latest.items in
    let view = ap (λ (o : Owned). o.own) c.self.view_is in
    let made = own_made change bs c.push_reserved.new.self.befores table c.put_last.new.table.items _ (ap (λ n. change.place + 1 - n) c.len.ensures) c.push_reserved.ensures.befores c.put_last.ensures.items in
    kept_seen change (own_in bs table) (own_in c.push_reserved.new.self.befores c.put_last.new.table.items) table c.put_last.new.table.items c.self.inside.seen _ c.self.inside.recent c.note_at.new.self
    (subst (λ (o : Own). length o.befores ≤ change.place) (sym view) c.requires.place)
    c.requires.few c.requires.before
    (subst (λ (o : Own). AreInOrder 0 change.before o.befores) (sym view) c.requires.order)
    made c.put_last.ensures.items
    (search rules)
    c.note_at.ensures.ends c.note_at.ensures.kept c.note_at.ensures.noted c.self.invariant

pub returns-clause-own : goal.returns-clause-own
returns-clause-own c =
    own_made c.args.change c.self.inside.befores.befores c.push_reserved.new.self.befores c.self.inside.latest.items c.put_last.new.table.items _
    (ap (λ n. c.args.change.place + 1 - n) c.len.ensures) c.push_reserved.ensures.befores c.put_last.ensures.items
    ∙ ap (λ (o : Owned). with_kept c.args.change o.own) c.self.view_is
