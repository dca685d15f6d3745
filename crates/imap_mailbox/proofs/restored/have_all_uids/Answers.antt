use Rattle.std.proofs.Common.{◌↔◌, List, ℕ, IsTrue, subst}
use Rattle.imap_mailbox.specs.Restored.{IsRun}
use Rattle.imap_mailbox.proofs.Restoring.{run_is}
use Rattle.imap_mailbox.proofs.restored.have_all_uids.Goals as goal

pub returns : goal.returns
returns c =
    let run = run_is c.args.next c.args.messages.now c.args.gone.now c.in_ok-uids.uids.items c.in_ok-uids.ensures.same c.in_ok-uids.ensures.sorted in
    let tested : IsTrue c.is_run.result ↔ IsRun 1 c.args.next c.in_ok-uids.uids.items = subst (λ (us : List ℕ). IsTrue c.is_run.result ↔ IsRun 1 c.args.next us) c.deref.ensures.value c.is_run.ensures in
    ((λ t. run.0 (tested.0 t)), λ h. tested.1 (run.1 h))
