use Rattle.std.proofs.Common.{◌≡◌, cond, None, Some, sym, ap, subst, ◌∙◌}
use Rattle.std.specs.Prelude.{option_map}
use Rattle.std.specs.Option.{option_copied_mut}
use Rattle.std.specs.FinMap as map
use Rattle.imap_name_map.specs.Rows.{with_value}
use Rattle.imap_world.specs.declared.mailbox_entry.MailboxEntry.{MailboxEntry}
use Rattle.imap_world.specs.Mailbox.{plain, plain_all}
use Rattle.imap_world.proofs.Room.{of_some}
use Rattle.imap_world.proofs.Contents.{get_plain, plain_put}
use Rattle.imap_names.proofs.NameLaws.{get_put}
use Rattle.imap_world.specs.Messages.{messages_changed}
use Rattle.imap_world.specs.Ready.{HasEntryRoom, MayChangeAt}
use Rattle.imap_world.proofs.messages.write_to.Goals as goal

pub write-requires-clause-room : goal.write-requires-clause-room
write-requires-clause-room c =
    subst (HasEntryRoom c.args.write) (sym c.get_mut.ensures.value ∙ ap option_copied_mut c.in-Some.is) c.requires.room

pub write-requires-clause-may : goal.write-requires-clause-may
write-requires-clause-may c =
    let old = c.args.mailboxes.now in
    subst (MayChangeAt c.args.write) (get_plain old.map c.args.name.now ∙ ap (option_map plain) (sym c.get_mut.ensures.value ∙ ap option_copied_mut c.in-Some.is)) c.requires.may

pub returns-in-Some-clause-mailboxes : goal.returns-in-Some-clause-mailboxes
returns-in-Some-clause-mailboxes c =
    let old = c.args.mailboxes.now in
    let name = c.args.name.now in
    let after : MailboxEntry = c.write.new.self in
    let there : map.get (plain_all old.map) name ≡ Some (plain c.in-Some.entry.now) = get_plain old.map name ∙ ap (option_map plain) (sym c.get_mut.ensures.value ∙ ap option_copied_mut c.in-Some.is) in
    let is : c.get_mut.follows.lender after ≡ with_value old name after = of_some c.get_mut.result c.in-Some.entry c.in-Some.is (c.get_mut.follows.holds after) in
    ap (λ r. plain_all r.map) is ∙ plain_put old.map name after ∙ ap (map.insert (plain_all old.map) name) c.write.ensures
    ∙ ap (messages_changed c.args.write.batch (plain_all old.map) name) (sym there)

pub returns-in-Some-clause-others : goal.returns-in-Some-clause-others
returns-in-Some-clause-others c q apart =
    let old = c.args.mailboxes.now in
    let name = c.args.name.now in
    let after : MailboxEntry = c.write.new.self in
    let is : c.get_mut.follows.lender after ≡ with_value old name after = of_some c.get_mut.result c.in-Some.entry c.in-Some.is (c.get_mut.follows.holds after) in
    ap (λ r. map.get r.map q) is ∙ get_put old.map name after q ∙ ap (λ b. cond b (Some after) (map.get old.map q)) apart

pub returns-in-Some-clause-spare : goal.returns-in-Some-clause-spare
returns-in-Some-clause-spare c =
    let after : MailboxEntry = c.write.new.self in
    ap (λ r. r.spare) (of_some c.get_mut.result c.in-Some.entry c.in-Some.is (c.get_mut.follows.holds after))

pub returns-in-None-clause-mailboxes : goal.returns-in-None-clause-mailboxes
returns-in-None-clause-mailboxes c =
    let old = c.args.mailboxes.now in
    let absent : map.get (plain_all old.map) c.args.name.now ≡ None = get_plain old.map c.args.name.now ∙ ap (option_map plain) (sym c.get_mut.ensures.value ∙ ap option_copied_mut c.in-None.is) in
    ap (λ r. plain_all r.map) c.get_mut.follows.holds-at-none ∙ ap (messages_changed c.args.write.batch (plain_all old.map) c.args.name.now) (sym absent)
