use Rattle.std.proofs.Common.{subst, sym, ◌∙◌}
use Rattle.imap_mailbox.specs.Rows.{first_uid}
use Rattle.imap_mailbox.specs.Summary.{AreRising}
use Rattle.imap_rights.specs.Rights.{bits}
use Rattle.imap_targets.specs.State.{selection_of}
use Rattle.imap_targets.specs.MessageNumbers.{uids_of}
use Rattle.imap_changes.proofs.Merged.{found_rise, unskipped_rise}
use Rattle.imap_changes.proofs.store.store_named.Goals as goal

pub stored_all-requires-clause-named : goal.stored_all-requires-clause-named
stored_all-requires-clause-named c =
    subst (λ ms. AreRising (uids_of ms)) (sym (c.as_slice-2.ensures.value ∙ c.remove_skipped.ensures))
    (unskipped_rise c.arguments.inside.spec.now.unchanged_since c.args.mailbox.now.rows c.args.named.items c.requires.rise)

pub store_messages-requires-clause-rise : goal.store_messages-requires-clause-rise
store_messages-requires-clause-rise c =
    found_rise (bits c.args.rights) c.arguments.inside.spec.now (selection_of c.args.selected.now) c.as_slice-2.result.now first_uid c.args.mailbox.now.next_uid c.args.mailbox.now.rows
    c.in_ok-stored.field-0 c.in-Some.stored c.as_slice-in-Some.result.now c.requires.order.uids c.in_ok-stored.ensures c.in-Some.is c.as_slice-in-Some.ensures.value
