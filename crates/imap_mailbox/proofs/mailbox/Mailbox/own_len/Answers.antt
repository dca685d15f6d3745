use Rattle.std.proofs.Common.{◌∙◌, length, ap, sym}
use Rattle.imap_mailbox.specs.Own.{Own, own_at}
use Rattle.imap_mailbox.specs.Held.{Held, lists}
use Rattle.imap_mailbox.proofs.Keeping.{found_is, absent_is}
use Rattle.imap_mailbox.proofs.mailbox.Mailbox.own_len.Goals as goal

pub returns-in-Some-clause-events : goal.returns-in-Some-clause-events
returns-in-Some-clause-events c =
    c.len.ensures.len ∙ ap (λ (o : Own). length o.befores) (sym (found_is c.self.inside.own c.args.user.now c.get.result c.in-Some.own c.in-Some.is c.get.ensures))
    ∙ ap (λ (h : Held). length (own_at (lists h.own) c.args.user.now).befores) c.self.view_is

pub returns-in-None-clause-events : goal.returns-in-None-clause-events
returns-in-None-clause-events c =
    ap (λ (o : Own). length o.befores) (sym (absent_is c.self.inside.own c.args.user.now c.get.result c.in-None.is c.get.ensures))
    ∙ ap (λ (h : Held). length (own_at (lists h.own) c.args.user.now).befores) c.self.view_is
