use Rattle.std.proofs.Common.{◌≡◌, Some, sym, ap, ◌∙◌}
use Rattle.std.proofs.lemmas.Result.{on_ok_weaker}
use Rattle.std.specs.Prelude.{option_map}
use Rattle.std.specs.Option.{option_copied_mut}
use Rattle.std.specs.FinMap as map
use Rattle.imap_name_map.specs.Rows.{with_value}
use Rattle.imap_world.specs.declared.mailbox_entry.MailboxEntry.{MailboxEntry}
use Rattle.imap_world.specs.Mailbox.{is_shared, plain, plain_all}
use Rattle.imap_world.proofs.Changed.{insert_same}
use Rattle.imap_world.proofs.Contents.{get_plain, plain_len, plain_put}
use Rattle.imap_world.proofs.Room.{of_some}
use Rattle.imap_world.proofs.Sharing.{shared_absent, shared_put}
use Rattle.imap_world.proofs.copies.share_in.Goals as goal

pub returns-in-Some-clause-contents : goal.returns-in-Some-clause-contents
returns-in-Some-clause-contents c =
    let old = c.args.mailboxes.now in
    let name = c.args.name.now in
    let before : MailboxEntry = c.in-Some.entry.now in
    let after : MailboxEntry = c.share.new.self in
    let there : map.get (plain_all old.map) name ≡ Some (plain before) = get_plain old.map name ∙ ap (option_map plain) (sym c.get_mut_near.ensures.value ∙ ap option_copied_mut c.in-Some.is) in
    let is : c.get_mut_near.follows.lender after ≡ with_value old name after = of_some c.get_mut_near.result c.in-Some.entry c.in-Some.is (c.get_mut_near.follows.holds after) in
    ap (λ r. plain_all r.map) is ∙ plain_put old.map name after ∙ ap (map.insert (plain_all old.map) name) c.share.ensures.contents
    ∙ insert_same (plain_all old.map) name (plain before) there

pub returns-in-Some-clause-len : goal.returns-in-Some-clause-len
returns-in-Some-clause-len c = plain_len _ _ (returns-in-Some-clause-contents c)

pub returns-in-Some-clause-ok : goal.returns-in-Some-clause-ok
returns-in-Some-clause-ok c =
    let after : MailboxEntry = c.share.new.self in
    let is : c.get_mut_near.follows.lender after ≡ with_value c.args.mailboxes.now c.args.name.now after = of_some c.get_mut_near.result c.in-Some.entry c.in-Some.is (c.get_mut_near.follows.holds after) in
    on_ok_weaker c.share.result (λ shared other. ap (λ r. is_shared (map.get r.map other)) is ∙ shared_put c.args.mailboxes.now.map c.args.name.now after shared other) c.share.ensures.ok

pub returns-in-None-clause-ok : goal.returns-in-None-clause-ok
returns-in-None-clause-ok c = λ other.
    let stays : c.get_mut_near.follows.lender-at-none ≡ c.args.mailboxes.now = c.get_mut_near.follows.holds-at-none in
    ap (λ r. is_shared (map.get r.map other)) stays
    ∙ shared_absent c.args.mailboxes.now.map c.args.name.now (sym c.get_mut_near.ensures.value ∙ ap option_copied_mut c.in-None.is) other
