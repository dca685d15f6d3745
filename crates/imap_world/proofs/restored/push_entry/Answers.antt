use Rattle.std.proofs.Common.{refl, sym, subst}
use Rattle.imap_batch.specs.Held.{Held, IsKept, summary_in}
use Rattle.imap_batch.specs.Parts.{StandFor}
use Rattle.imap_names.specs.Name.{Name}
use Rattle.imap_world.specs.declared.mailbox_entry.MailboxEntry.{MailboxEntry}
use Rattle.imap_world.proofs.restored.push_entry.Goals as goal

pub returns : goal.returns
returns c =
    let e : Name × MailboxEntry = (c.args.row.name, record { validity = c.args.row.validity; acl = c.in_ok-acl.acl; messages = c.in_ok-held.held; number = 0 }) in (
      e,
      c.in_ok-push.ensures,
      record {
        name = refl;
        validity = refl;
        acl = c.in_ok-acl.ensures;
        messages = subst (λ (h : Held). StandFor c.args.row.messages (summary_in h)) (sym c.in_ok-held.ensures.same) c.in_ok-mailbox.ensures;
      },
      subst (λ (h : Held). IsKept (summary_in h)) (sym c.in_ok-held.ensures.same) c.held.ensures.kept,
    )
