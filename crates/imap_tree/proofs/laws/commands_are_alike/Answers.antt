use Rattle.imap_answer.proofs.Alike.{answers_alike}
use Rattle.imap_tree.specs.Create.{create_answer}
use Rattle.imap_tree.specs.Delete.{delete_answer}
use Rattle.imap_tree.specs.GetAcl.{get_acl_answer}
use Rattle.imap_tree.specs.ListRights.{list_rights_answer}
use Rattle.imap_tree.specs.MyRights.{my_rights_answer}
use Rattle.imap_tree.specs.Rename.{rename_answer}
use Rattle.imap_tree.specs.SetAcl.{delete_acl_answer, set_acl_answer}
use Rattle.imap_tree.proofs.Fitting.{create_fits, delete_acl_fits, delete_fits, get_acl_fits, list_rights_fits, my_rights_fits, rename_fits, set_acl_fits}
use Rattle.imap_tree.proofs.laws.commands_are_alike.Goals as goal

pub returns-clause-create : goal.returns-clause-create
returns-clause-create c = λ tag mailbox. answers_alike (λ view. create_answer view tag mailbox) (λ view. create_fits view tag mailbox)

pub returns-clause-delete : goal.returns-clause-delete
returns-clause-delete c = λ selected tag mailbox. answers_alike (λ view. delete_answer view selected tag mailbox) (λ view. delete_fits view tag selected mailbox)

pub returns-clause-rename : goal.returns-clause-rename
returns-clause-rename c = λ selected tag old new. answers_alike (λ view. rename_answer view selected tag old new) (λ view. rename_fits view tag selected old new)

pub returns-clause-set_acl : goal.returns-clause-set_acl
returns-clause-set_acl c = λ tag mailbox identifier rights.
    answers_alike (λ view. set_acl_answer view tag mailbox identifier rights) (λ view. set_acl_fits view tag mailbox identifier rights)

pub returns-clause-delete_acl : goal.returns-clause-delete_acl
returns-clause-delete_acl c = λ tag mailbox identifier.
    answers_alike (λ view. delete_acl_answer view tag mailbox identifier) (λ view. delete_acl_fits view tag mailbox identifier)

pub returns-clause-get_acl : goal.returns-clause-get_acl
returns-clause-get_acl c = λ tag mailbox. answers_alike (λ view. get_acl_answer view tag mailbox) (λ view. get_acl_fits view tag mailbox)

pub returns-clause-list_rights : goal.returns-clause-list_rights
returns-clause-list_rights c = λ tag mailbox identifier.
    answers_alike (λ view. list_rights_answer view tag mailbox identifier) (λ view. list_rights_fits view tag mailbox identifier)

pub returns-clause-my_rights : goal.returns-clause-my_rights
returns-clause-my_rights c = λ tag mailbox. answers_alike (λ view. my_rights_answer view tag mailbox) (λ view. my_rights_fits view tag mailbox)
