use Rattle.std.proofs.Common.{◌≡◌, of_z, refl, rules, subst, to_z, w64}
use Rattle.imap_tables.specs.declared.stored.StoredMessage.{StoredMessage}
use Rattle.imap_restore.specs.Parts.{LeavesOthers}
use Rattle.imap_restore.proofs.parts.read_messages.Goals as goal

pub returns-clause-left : goal.returns-clause-left
returns-clause-left c =
    let rows = c.args.rows.now.messages.items in
    let at : to_z w64 (of_z w64 c.args.mailbox.now.id) ≡ c.args.mailbox.now.id = search rules in
    record {
      entries = refl;
      messages = subst (λ k. LeavesOthers (λ (m : StoredMessage). m.mailbox) k rows c.take_below.new.rows.items) at c.in_ok-messages.ensures.left;
      gone = refl;
    }
