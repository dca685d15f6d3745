use Rattle.std.proofs.Common.{sym, ap, ◌∙◌}
use Rattle.imap_rights.specs.Groups.{takes_from}
use Rattle.imap_rights.specs.Rights.{bits}
use Rattle.imap_rights.proofs.Unions.{all_done, and_next, if_counted, if_passed}
use Rattle.imap_rights.proofs.acl.rights_taken.Goals as goal
use Rattle.imap_rights.proofs.acl.rights_taken.Goals.{then-takes_from, else-takes_from}

pub loop-entry-preserved : goal.loop-entry-preserved
loop-entry-preserved c =
    let counts = takes_from c.args.groups.now.map c.args.user.now in
    let item = c.entry-item.result in
    and_next counts c.args.entries.now c.loop-entry.entry-index (bits c.loop-entry.rights) (bits c.if-takes_from.rights) _ item c.loop-entry-test.true c.entry-item.is
    (elim c.if-takes_from.branch [
      | then-takes_from w ↦ if_counted (counts item.identifier) (bits c.loop-entry.rights) (bits item.rights) _ (ap counts (sym c.as_str.ensures) ∙ sym c.takes_from.ensures ∙ w.if-takes_from.true) (ap bits w.rights-is ∙ w.union-rights.ensures tt)
      | else-takes_from w ↦ if_passed (counts item.identifier) (bits c.loop-entry.rights) (bits item.rights) _ (ap counts (sym c.as_str.ensures) ∙ sym c.takes_from.ensures ∙ w.if-takes_from.false) (ap bits w.rights-is)
    ])
    c.loop-entry.invariant

pub returns : goal.returns
returns c = all_done (takes_from c.args.groups.now.map c.args.user.now) c.args.entries.now c.loop-entry.entry-index (bits c.loop-entry.rights) _ c.loop-entry-test.false c.loop-entry.invariant
