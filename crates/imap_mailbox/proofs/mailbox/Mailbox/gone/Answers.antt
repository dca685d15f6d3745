use Rattle.std.proofs.Common.{◌∙◌, ℕ, List, map, ap, sym, subst}
use Rattle.imap_mailbox.specs.Own.{Own}
use Rattle.imap_mailbox.specs.Summary.{gone_in, gone_of, highest_of}
use Rattle.imap_mailbox.specs.Order.{AreGoneInOrder}
use Rattle.imap_mailbox.specs.Held.{Held, summary_with, summary_in}
use Rattle.imap_mailbox.proofs.Lending.{own_is, gone_lent}
use Rattle.imap_mailbox.proofs.Bounds.{gone_in_order}
use Rattle.imap_mailbox.proofs.mailbox.Mailbox.gone.Goals as goal

pub invariant_of-result : goal.invariant_of-result
invariant_of-result c = gone_lent (summary_with c.self.inside.messages.items c.self.inside.gone.items c.self.inside.next c.self.inside.shared c.self.inside.own) c.self.invariant.0

pub returns-clause-gone : goal.returns-clause-gone
returns-clause-gone c =
    ap (λ (l : Own). map (gone_in l) c.self.inside.gone.items) (sym (own_is c.self.inside.own c.args.user.now c.get.result c.get.ensures))
    ∙ ap (λ (h : Held). gone_of (summary_in h) c.args.user.now) c.self.view_is

pub returns-clause-valid : goal.returns-clause-valid
returns-clause-valid c =
    let s = summary_with c.self.inside.messages.items c.self.inside.gone.items c.self.inside.next c.self.inside.shared c.self.inside.own in
    let order = subst (λ (h : Held). AreGoneInOrder h.next (highest_of (summary_in h) c.args.user.now) (gone_of (summary_in h) c.args.user.now)) c.self.view_is (gone_in_order s c.args.user.now c.self.invariant.0) in
    subst (λ (gone : List (ℕ × ℕ)). AreGoneInOrder c.args.self.now.next (highest_of (summary_in c.args.self.now) c.args.user.now) gone) (sym (returns-clause-gone c)) order
