use Rattle.imap_rights.specs.Rights.{bits}
use Rattle.imap_changes.proofs.Found.{copies_rise}
use Rattle.imap_changes.proofs.transfer.transfer_to_seen.Goals as goal

pub transfer_messages-requires-clause-rise : goal.transfer_messages-requires-clause-rise
transfer_messages-requires-clause-rise c =
    copies_rise (bits c.rights-2.result) c.as_slice-2.result.now c.args.mailbox.now.next_uid c.args.mailbox.now.rows c.in_ok-copies.copies c.requires.order.uids c.in_ok-copies.ensures
