use Rattle.std.proofs.Common.{◌≡◌, Some, sym, ap, ◌∙◌}
use Rattle.std.specs.Prelude.{option_map}
use Rattle.std.specs.Option.{option_copied_mut}
use Rattle.std.specs.FinMap as map
use Rattle.imap_name_map.specs.Rows.{with_value}
use Rattle.imap_world.specs.declared.mailbox_entry.MailboxEntry.{MailboxEntry}
use Rattle.imap_world.specs.Mailbox.{plain, plain_all}
use Rattle.imap_world.proofs.Changed.{insert_same}
use Rattle.imap_world.proofs.Contents.{get_plain, plain_put}
use Rattle.imap_world.proofs.Room.{of_some}
use Rattle.imap_world.proofs.indexing.number_at.Goals as goal

pub returns-in-Some : goal.returns-in-Some
returns-in-Some c =
    let old = c.args.mailboxes.now in
    let name = c.args.name.now in
    let before : MailboxEntry = c.in-Some.entry.now in
    let after : MailboxEntry = record before { number = c.args.number } in
    let there : map.get (plain_all old.map) name ≡ Some (plain before) = get_plain old.map name ∙ ap (option_map plain) (sym c.get_mut_near.ensures.value ∙ ap option_copied_mut c.in-Some.is) in
    let is : c.get_mut_near.follows.lender after ≡ with_value old name after = of_some c.get_mut_near.result c.in-Some.entry c.in-Some.is (c.get_mut_near.follows.holds after) in
    ap (λ r. plain_all r.map) is ∙ plain_put old.map name after ∙ insert_same (plain_all old.map) name (plain before) there
