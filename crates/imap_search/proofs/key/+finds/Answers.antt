use Rattle.std.proofs.Common.{◌≡◌, ◌∙◌, Bool, IfOk, ap, sym, subst}
use Rattle.std.specs.List.{list_all}
use Rattle.imap_search.specs.Ready.{finds_ready}
use Rattle.imap_search.specs.Shown.{candidate_shown}
use Rattle.imap_search.proofs.Readied.{group_all}
use Rattle.imap_search.proofs.key.+finds.Goals as goal

pub finds-returns-in-Group-clause-found : goal.finds-returns-in-Group-clause-found
finds-returns-in-Group-clause-found t c =
    let s = candidate_shown c.args.candidate.now in
    let keys = ap (list_all (finds_ready s)) c.deref-in-Group.ensures.value in
    let same = sym (group_all s c.in-Group.keys) ∙ ap (finds_ready s) (sym c.in-Group.is) in
    subst (λ (b : Bool). IfOk c.finds_each.result (λ found. found ≡ b)) (keys ∙ same) c.finds_each.ensures.found
