use Rattle.std.proofs.Common.{subst, List, Err}
use Rattle.imap_mailbox.specs.Restored.{AppendsAll}
use Rattle.imap_mailbox.specs.UserChange.{UserChange}
use Rattle.imap_mailbox.proofs.OwnChanges.{none_own}
use Rattle.imap_mailbox.proofs.own_lists.own_lists.Goals as goal

pub returns : goal.returns
returns c =
    none_own c.args.next c.args.shared c.args.changes.items _ c.add_changes.new.own c.in-Err.error c.sort_by_place.ensures.same c.sort_by_place.ensures.sorted
    (subst (λ (ys : List UserChange). AppendsAll c.args.next c.args.shared ys c.add_changes.new.own (Err c.in-Err.error)) c.deref.ensures.value
    (subst (AppendsAll c.args.next c.args.shared c.deref.result.now c.add_changes.new.own) c.in-Err.is c.add_changes.ensures))
