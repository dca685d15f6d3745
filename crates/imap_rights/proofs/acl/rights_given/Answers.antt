use Rattle.std.proofs.Common.{sym, ap, ◌∙◌}
use Rattle.imap_rights.specs.Groups.{stands_for}
use Rattle.imap_rights.specs.Rights.{bits}
use Rattle.imap_rights.proofs.Unions.{all_done, and_next, if_counted, if_passed}
use Rattle.imap_rights.proofs.acl.rights_given.Goals as goal
use Rattle.imap_rights.proofs.acl.rights_given.Goals.{then-stands_for, else-stands_for}

pub loop-entry-preserved : goal.loop-entry-preserved
loop-entry-preserved c =
    let counts = stands_for c.args.groups.now.map c.args.user.now in
    let item = c.entry-item.result in
    and_next counts c.args.entries.now c.loop-entry.entry-index (bits c.loop-entry.rights) (bits c.if-stands_for.rights) _ item c.loop-entry-test.true c.entry-item.is
    (elim c.if-stands_for.branch [
      | then-stands_for w ↦ if_counted (counts item.identifier) (bits c.loop-entry.rights) (bits item.rights) _ (ap counts (sym c.as_str.ensures) ∙ sym c.stands_for.ensures ∙ w.if-stands_for.true) (ap bits w.rights-is ∙ w.union-rights.ensures tt)
      | else-stands_for w ↦ if_passed (counts item.identifier) (bits c.loop-entry.rights) (bits item.rights) _ (ap counts (sym c.as_str.ensures) ∙ sym c.stands_for.ensures ∙ w.if-stands_for.false) (ap bits w.rights-is)
    ])
    c.loop-entry.invariant

pub returns : goal.returns
returns c = all_done (stands_for c.args.groups.now.map c.args.user.now) c.args.entries.now c.loop-entry.entry-index (bits c.loop-entry.rights) _ c.loop-entry-test.false c.loop-entry.invariant
