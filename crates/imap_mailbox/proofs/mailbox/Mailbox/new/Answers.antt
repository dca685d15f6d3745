use Rattle.std.proofs.Common.{◌∙◌, sym, subst}
use Rattle.imap_mailbox.specs.Held.{summary_with, IsKept}
use Rattle.imap_mailbox.proofs.AllCounted.{nobody_counted}
use Rattle.imap_mailbox.proofs.Keeping.{kept_fresh, summed_fresh}
use Rattle.imap_mailbox.proofs.Recently.{nothing_noted}
use Rattle.imap_mailbox.specs.Summary.{ArePlacesBelow}
use Rattle.imap_mailbox.specs.Totals.{AreTotals}
use Rattle.imap_mailbox.proofs.mailbox.Mailbox.new.Goals as goal

pub invariant_of-result : goal.invariant_of-result
invariant_of-result c = (
  subst IsKept (λ i. summary_with (sym c.new.ensures.items i) (sym c.new-2.ensures.items i) 1 0 c.new-3.result) (kept_fresh c.new-3.result c.new-3.ensures),
  nobody_counted c.new-3.result c.new.result.items c.new-3.ensures,
  nothing_noted 0 c.new.result.items c.new-4.result c.new-4.ensures (subst (ArePlacesBelow 0) (sym c.new.ensures.items) tt),
  subst (λ messages. AreTotals messages c.none.result) (sym c.new.ensures.items) c.none.ensures,
)

pub returns : goal.returns
returns c = (λ i. summary_with (c.new.ensures.items i) (c.new-2.ensures.items i) 1 0 c.new-3.result) ∙ summed_fresh c.new-3.result c.new-3.ensures
