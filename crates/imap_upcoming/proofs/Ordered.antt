-- What is read of a mailbox is in order.
use Rattle.std.proofs.Common.{◌≡◌, ℕ, ◌≤◌, List, sym, subst, arith}
use Rattle.imap_mailbox.proofs.BroughtUp.{shown_is_ordered}
use Rattle.imap_mailbox.specs.Held.{IsKept}
use Rattle.imap_mailbox.specs.Order.{AreRowsInOrder}
use Rattle.imap_mailbox.specs.Summary.{Summary}
use Rattle.imap_modseq.specs.Numbers.{max_events, max_number}
use Rattle.imap_view.specs.declared.readable.Readable.{Readable}
use Rattle.imap_upcoming.specs.Readable.{messages_for}

pub record IsOrdered (r : Readable) : Type 0 where
  pub rows : AreRowsInOrder r.next_uid r.highest r.rows
  pub own : r.own ≤ max_events
  pub highest : r.highest ≤ max_number

pub in_order : (user : List ℕ) (validity : ℕ) (s : Summary) → IsKept s → (r : Readable) → r ≡ messages_for user validity s → IsOrdered r
in_order user validity s kept r is =
    subst IsOrdered (sym is) (record { rows = shown_is_ordered s user kept; own = kept.own_few user; highest = omega (arith, kept.few, kept.own_few user) })
