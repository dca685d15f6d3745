use Rattle.std.proofs.Common.{◌∙◌, List, map, ap, sym, subst}
use Rattle.imap_mailbox.specs.Own.{Own}
use Rattle.imap_mailbox.specs.Counted.{IsCounted}
use Rattle.imap_mailbox.specs.Rows.{Row}
use Rattle.imap_mailbox.specs.Summary.{row_in, rows_of, highest_of}
use Rattle.imap_mailbox.specs.Order.{AreRowsInOrder}
use Rattle.imap_mailbox.specs.Held.{Held, summary_with, summary_in}
use Rattle.imap_mailbox.proofs.Lending.{own_is, lent}
use Rattle.imap_mailbox.proofs.Bounds.{rows_in_order}
use Rattle.imap_mailbox.proofs.mailbox.Mailbox.rows.Goals as goal

pub invariant_of-result : goal.invariant_of-result
invariant_of-result c = (
  lent (summary_with c.self.inside.messages.items c.self.inside.gone.items c.self.inside.next c.self.inside.shared c.self.inside.own) c.self.invariant.0,
  subst (IsCounted c.self.inside.messages.items) (sym c.get.ensures) (c.self.invariant.1 c.args.user.now),
  c.self.invariant.2.recent,
  c.self.invariant.3,
)

pub returns-clause-rows : goal.returns-clause-rows
returns-clause-rows c =
    ap (λ (l : Own). map (row_in l) c.self.inside.messages.items) (sym (own_is c.self.inside.own c.args.user.now c.get.result c.get.ensures))
    ∙ ap (λ (h : Held). rows_of (summary_in h) c.args.user.now) c.self.view_is

pub returns-clause-valid : goal.returns-clause-valid
returns-clause-valid c =
    let s = summary_with c.self.inside.messages.items c.self.inside.gone.items c.self.inside.next c.self.inside.shared c.self.inside.own in
    let order = subst (λ (h : Held). AreRowsInOrder h.next (highest_of (summary_in h) c.args.user.now) (rows_of (summary_in h) c.args.user.now)) c.self.view_is (rows_in_order s c.args.user.now c.self.invariant.0) in
    subst (λ (rows : List Row). AreRowsInOrder c.args.self.now.next (highest_of (summary_in c.args.self.now) c.args.user.now) rows) (sym (returns-clause-rows c)) order
