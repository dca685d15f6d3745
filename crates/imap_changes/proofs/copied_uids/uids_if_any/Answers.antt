use Rattle.std.proofs.Common.{◌∙◌}
use Rattle.imap_mailbox.specs.Lent.{row_uids}
use Rattle.imap_mailbox.specs.Rows.{first_uid}
use Rattle.imap_mailbox.proofs.Rising.{rises_end}
use Rattle.imap_changes.specs.Finding.{both_sets}
use Rattle.imap_changes.proofs.CopiesTold.{both_are}
use Rattle.imap_changes.proofs.copied_uids.uids_if_any.Goals as goal

pub returns : goal.returns
returns c =
    let target = c.args.target.now in
    c.both_sets.ensures
    ∙ (λ j. both_sets target.validity (c.in_ok-source.ensures.items j) (c.in_ok-copies.ensures j))
    ∙ both_are target.validity target.next_uid c.requires.rise.0 c.args.uids.now c.requires.rise.1
    (rises_end first_uid target.next_uid (row_uids target.rows) c.requires.order.uids)
