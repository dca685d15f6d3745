use Rattle.std.proofs.Common.{◌≡◌, drop}
use Rattle.imap_world.specs.Mailbox.{plain_all}
use Rattle.imap_world.specs.Moving.{with_validities}
use Rattle.imap_world.proofs.moving.set_validities.Given as goal

abbrev pub invariant-loop-entry : goal.invariant-loop-entry
invariant-loop-entry l = record {
  mailboxes : with_validities (plain_all l.mailboxes.map) (drop l.entry-index l.validities) ≡ with_validities (plain_all l.fn.mailboxes.map) l.validities;
  spare : l.mailboxes.spare ≡ l.fn.mailboxes.spare;
}
