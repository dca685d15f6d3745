use Rattle.std.proofs.Common.{◌≡◌, ℕ, List, Option, IfOk, subst}
use Rattle.imap_rights.specs.Change.{replacing}
use Rattle.imap_rights.specs.Rights.{no_rights}
use Rattle.imap_tree.specs.SetAcl.{set_rights_answer}
use Rattle.imap_tree.proofs.set_acl.delete_acl_answer.Goals as goal

pub returns : goal.returns
returns c =
    let given : ℕ → Option (List ℕ) → Type 0 = λ rights read. IfOk c.set_rights.result (λ answer. answer
    ≡ set_rights_answer c.args.context.now.view c.args.context.now.tag c.args.mailbox.now read (replacing rights)) in
    subst (given no_rights) c.in_ok-identifier.ensures
    (subst (λ rights. given rights c.in_ok-identifier.identifier) (c.empty.ensures tt) c.set_rights.ensures)
