use Rattle.std.proofs.Common.{◌≡◌, None, Some, refl, sym, ap, subst, ◌∙◌}
use Rattle.std.specs.Prelude.{option_map}
use Rattle.std.specs.Option.{option_copied}
use Rattle.std.specs.FinMap as map
use Rattle.imap_world.specs.Indexed.{IsIndexIn, lists_of}
use Rattle.imap_world.specs.Mailbox.{plain, plain_all}
use Rattle.imap_world.specs.Tree.{mailboxes_with_list}
use Rattle.imap_world.proofs.Contents.{get_plain}
use Rattle.imap_world.proofs.ListsChanged.{acl_in, alike, lists_put}
use Rattle.imap_world.proofs.indexing.set_list_in_index.Goals as goal

pub returns-in-Some : goal.returns-in-Some
returns-in-Some c =
    let m = plain_all c.args.mailboxes.now.map in
    let name = c.args.name.now in
    let acl = c.args.acl.now in
    let before = plain c.in-Some.entry.now in
    let there : map.get m name ≡ Some before = get_plain c.args.mailboxes.now.map name ∙ ap (option_map plain) (sym c.get.ensures ∙ ap option_copied c.in-Some.is) in
    λ index. subst (λ o. IsIndexIn c.set_list.new.self (mailboxes_with_list m name acl o)) (sym there)
    (alike c.set_list.new.self _ _ (lists_put m name (record before { acl = acl })) (c.set_list.ensures (lists_of m) (ap acl_in there) index))

pub returns-in-None : goal.returns-in-None
returns-in-None c =
    let m = plain_all c.args.mailboxes.now.map in
    let name = c.args.name.now in
    let absent : map.get m name ≡ None = get_plain c.args.mailboxes.now.map name ∙ ap (option_map plain) (sym c.get.ensures ∙ ap option_copied c.in-None.is) in
    λ index. subst (λ o. IsIndexIn c.args.index.now (mailboxes_with_list m name c.args.acl.now o)) (sym absent) index
