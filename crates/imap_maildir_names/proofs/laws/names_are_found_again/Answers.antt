use Rattle.std.proofs.Common.{◌≡◌, ◌∙◌, ap, sym, Some}
use Rattle.imap_maildir_names.specs.Folders.{name_at}
use Rattle.imap_maildir_names.proofs.Found.{found_again}
use Rattle.imap_maildir_names.proofs.laws.names_are_found_again.Goals as goal

pub returns-clause-found : goal.returns-clause-found
returns-clause-found c = found_again

pub returns-clause-apart : goal.returns-clause-apart
returns-clause-apart c one other is others e =
    let same : Some one ≡ Some other = sym (found_again one is) ∙ ap name_at e ∙ found_again other others in cc
