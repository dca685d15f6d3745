use Rattle.std.proofs.Common.{◌≡◌, cond, None, Some, sym, ap, subst, ◌∙◌}
use Rattle.std.specs.Prelude.{option_map}
use Rattle.std.specs.Option.{option_copied_mut}
use Rattle.std.specs.FinMap as map
use Rattle.imap_name_map.specs.Rows.{with_value}
use Rattle.imap_world.specs.declared.mailbox_entry.MailboxEntry.{MailboxEntry}
use Rattle.imap_world.specs.Mailbox.{plain, plain_all}
use Rattle.imap_world.proofs.Room.{of_some}
use Rattle.imap_world.proofs.Contents.{get_plain, plain_put}
use Rattle.imap_names.proofs.NameLaws.{get_put}
use Rattle.imap_world.specs.Ready.{HasEntryRoom}
use Rattle.imap_world.proofs.Changed.{insert_same}
use Rattle.imap_world.proofs.Parts.{on_ok_at, room_at}
use Rattle.imap_world.proofs.messages.make_room_in.Goals as goal

pub returns-in-Some-clause-contents : goal.returns-in-Some-clause-contents
returns-in-Some-clause-contents c =
    let old = c.args.mailboxes.now in
    let name = c.args.name.now in
    let before : MailboxEntry = c.in-Some.entry.now in
    let after : MailboxEntry = c.make_room.new.self in
    let there : map.get (plain_all old.map) name ≡ Some (plain before) = get_plain old.map name ∙ ap (option_map plain) (sym c.get_mut.ensures.value ∙ ap option_copied_mut c.in-Some.is) in
    let is : c.get_mut.follows.lender after ≡ with_value old name after = of_some c.get_mut.result c.in-Some.entry c.in-Some.is (c.get_mut.follows.holds after) in
    ap (λ r. plain_all r.map) is ∙ plain_put old.map name after ∙ ap (map.insert (plain_all old.map) name) c.make_room.ensures.contents
    ∙ insert_same (plain_all old.map) name (plain before) there

pub returns-in-Some-clause-spare : goal.returns-in-Some-clause-spare
returns-in-Some-clause-spare c =
    let after : MailboxEntry = c.make_room.new.self in
    ap (λ r. r.spare) (of_some c.get_mut.result c.in-Some.entry c.in-Some.is (c.get_mut.follows.holds after))

pub returns-in-Some-clause-others : goal.returns-in-Some-clause-others
returns-in-Some-clause-others c q apart =
    let old = c.args.mailboxes.now in
    let name = c.args.name.now in
    let after : MailboxEntry = c.make_room.new.self in
    let is : c.get_mut.follows.lender after ≡ with_value old name after = of_some c.get_mut.result c.in-Some.entry c.in-Some.is (c.get_mut.follows.holds after) in
    ap (λ r. map.get r.map q) is ∙ get_put old.map name after q ∙ ap (λ b. cond b (Some after) (map.get old.map q)) apart

pub returns-in-Some-clause-ok : goal.returns-in-Some-clause-ok
returns-in-Some-clause-ok c =
    let old = c.args.mailboxes.now in
    let name = c.args.name.now in
    let after : MailboxEntry = c.make_room.new.self in
    let is : c.get_mut.follows.lender after ≡ with_value old name after = of_some c.get_mut.result c.in-Some.entry c.in-Some.is (c.get_mut.follows.holds after) in
    on_ok_at c.args.write.now (map.get (c.get_mut.follows.lender after).map name) after (room_at old.map name after (c.get_mut.follows.lender after).map (ap (λ r. r.map) is)) c.make_room.result c.make_room.ensures.ok

pub returns-in-None-clause-ok : goal.returns-in-None-clause-ok
returns-in-None-clause-ok c =
    let old = c.args.mailboxes.now in
    let absent : map.get old.map c.args.name.now ≡ None = sym c.get_mut.ensures.value ∙ ap option_copied_mut c.in-None.is in
    subst (HasEntryRoom c.args.write.now) (sym (ap (λ r. map.get r.map c.args.name.now) c.get_mut.follows.holds-at-none ∙ absent)) tt
