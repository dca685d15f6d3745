use Rattle.std.proofs.Common.{◌≡◌, true, cond, List, ℕ, Option, Some, None, sym, ap, ◌∙◌}
use Rattle.std.specs.Prelude.{option_and_then, option_copied, option_map}
use Rattle.imap_batch.proofs.Kept.{batches_keep}
use Rattle.imap_batch.specs.Written.{with_batch}
use Rattle.imap_batch.specs.declared.write.BatchWrite.{BatchWrite}
use Rattle.imap_names.specs.Name.{Name}
use Rattle.imap_rights.specs.Acl.{AclMap}
use Rattle.imap_rights.specs.Effective.{effective}
use Rattle.imap_rights.specs.Groups.{Members}
use Rattle.imap_rights.specs.Rights.{has_any, read}
use Rattle.imap_world.specs.declared.change.Write.{Write}
use Rattle.imap_world.specs.Mailbox.{Mailbox, plain}
use Rattle.imap_upcoming.proofs.Ordered.{in_order}
use Rattle.imap_upcoming.proofs.upcoming.Upcoming.of_entry.Goals as goal
use Rattle.imap_upcoming.specs.Changed.{acl_after, batch_for, mailbox_after, messages_after}
use Rattle.imap_upcoming.specs.Readable.{messages_for, readable, readable_for}

module _ (user owner : List ℕ) (groups : Members) (name : Name) (change : List Write) (m : Mailbox) where
  abbrev made : Option AclMap → Option BatchWrite → Option Mailbox
  made acl w = option_map (λ a. record { validity = m.validity; acl = a; messages = messages_after w m.messages }) acl

  is_read : (acl : AclMap) (w : Option BatchWrite) → acl_after name m.acl change ≡ Some acl → batch_for name change ≡ w → has_any (effective user owner groups acl) read ≡ true
      → option_and_then (readable_for user owner groups) (mailbox_after name change m) ≡ Some (messages_for user m.validity (messages_after w m.messages))
  is_read acl w list batch may =
      (λ i. option_and_then (readable_for user owner groups) (made (list i) (batch i)))
      ∙ ap (λ b. cond b (Some (messages_for user m.validity (messages_after w m.messages))) None) may

pub written-requires : goal.written-requires
written-requires c = (c.requires.may c.in-Some.write.now (sym c.batch_for.ensures ∙ ap option_copied c.in-Some.is)).0

pub returns-in-Some : goal.returns-in-Some
returns-in-Some c =
    let m = plain c.args.entry.now in
    let w = c.in-Some.write.now in
    let batch : batch_for c.args.name.now c.args.change.now ≡ Some w = sym c.batch_for.ensures ∙ ap option_copied c.in-Some.is in
    let may = c.requires.may w batch in
    let order = in_order w.batch.user m.validity (with_batch w.batch m.messages) (batches_keep m.messages w may.0 c.requires.kept).0 (readable c.written.result) c.written.ensures.readable in
    record {
      readable = ap Some (c.written.ensures.readable ∙ ap (λ u. messages_for u m.validity (with_batch w.batch m.messages)) may.1)
          ∙ sym (is_read c.args.user.now c.args.owner.now c.args.groups.now c.args.name.now c.args.change.now m c.in_ok-acl.acl.now (Some w)
          (sym c.acl_after.ensures ∙ ap option_copied c.in_ok-acl.was) batch (sym c.may_read-may.ensures ∙ c.if-not-may.false));
      valid = order.rows;
      uids = c.written.ensures.uids;
      few = order.own;
      bounded = order.highest;
    }

pub returns-in-None-clause-valid : goal.returns-in-None-clause-valid
returns-in-None-clause-valid c =
    let m = plain c.args.entry.now in
    (in_order c.args.user.now m.validity m.messages c.requires.kept (readable c.there.result) c.there.ensures.readable).rows
