use Rattle.std.proofs.Common.{◌≡◌, None, Some, sym, ap, ◌∙◌}
use Rattle.std.specs.Prelude.{option_map}
use Rattle.std.specs.Option.{option_copied_mut}
use Rattle.std.specs.FinMap as map
use Rattle.imap_name_map.specs.Rows.{with_value}
use Rattle.imap_world.specs.declared.mailbox_entry.MailboxEntry.{MailboxEntry}
use Rattle.imap_world.specs.Mailbox.{plain, plain_all}
use Rattle.imap_world.specs.Moving.{with_validity}
use Rattle.imap_world.proofs.Contents.{get_plain, plain_put}
use Rattle.imap_world.proofs.Room.{of_some}
use Rattle.imap_world.proofs.moving.set_validity.Goals as goal

pub returns-in-Some-clause-mailboxes : goal.returns-in-Some-clause-mailboxes
returns-in-Some-clause-mailboxes c =
    let old = c.args.mailboxes.now in
    let after : MailboxEntry = record c.in-Some.mailbox.now { validity = c.args.validity } in
    let there : map.get (plain_all old.map) c.args.name.now ≡ Some (plain c.in-Some.mailbox.now) = get_plain old.map c.args.name.now ∙ ap (option_map plain) (sym c.get_mut_near.ensures.value ∙ ap option_copied_mut c.in-Some.is) in
    let is : c.get_mut_near.follows.lender after ≡ with_value old c.args.name.now after = of_some c.get_mut_near.result c.in-Some.mailbox c.in-Some.is (c.get_mut_near.follows.holds after) in
    ap (λ r. plain_all r.map) is ∙ plain_put old.map c.args.name.now after ∙ ap (with_validity (plain_all old.map) c.args.name.now c.args.validity) (sym there)

pub returns-in-Some-clause-spare : goal.returns-in-Some-clause-spare
returns-in-Some-clause-spare c =
    let after : MailboxEntry = record c.in-Some.mailbox.now { validity = c.args.validity } in
    ap (λ r. r.spare) (of_some c.get_mut_near.result c.in-Some.mailbox c.in-Some.is (c.get_mut_near.follows.holds after))

pub returns-in-None-clause-mailboxes : goal.returns-in-None-clause-mailboxes
returns-in-None-clause-mailboxes c =
    let old = c.args.mailboxes.now in
    let absent : map.get (plain_all old.map) c.args.name.now ≡ None = get_plain old.map c.args.name.now ∙ ap (option_map plain) (sym c.get_mut_near.ensures.value ∙ ap option_copied_mut c.in-None.is) in
    ap (λ r. plain_all r.map) c.get_mut_near.follows.holds-at-none ∙ ap (with_validity (plain_all old.map) c.args.name.now c.args.validity) (sym absent)
