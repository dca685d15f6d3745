use Rattle.std.proofs.Common.{◌≡◌, sym, ap, ◌∙◌}
use Rattle.std.specs.FinMap as finite
use Rattle.imap_rights.specs.Entries.{pairs_of}
use Rattle.imap_rights.specs.Groups.{stands_for, takes_from, union_where}
use Rattle.imap_rights.specs.Rights.{less}
use Rattle.imap_rights.proofs.Finite.{entries-map_of}
use Rattle.imap_rights.proofs.acl.Acl.granted.Goals as goal

pub returns : goal.returns
returns c =
    let groups = c.args.groups.now.map in
    let user = c.args.user.now in
    let kept : pairs_of c.self.inside.entries.items ≡ finite.entries c.args.self.now =
    sym (entries-map_of (pairs_of c.self.inside.entries.items) c.self.invariant.sorted) ∙ ap finite.entries c.self.view_is in
    c.less.ensures
    ∙ (λ i. less (c.rights_given-given.ensures i) (c.rights_taken-taken.ensures i))
    ∙ (λ i. less (union_where (stands_for groups user) (pairs_of (c.as_slice.ensures.value i))) (union_where (takes_from groups user) (pairs_of (c.as_slice-2.ensures.value i))))
    ∙ ap (λ entries. less (union_where (stands_for groups user) entries) (union_where (takes_from groups user) entries)) kept
