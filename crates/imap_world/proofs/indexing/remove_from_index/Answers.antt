use Rattle.std.proofs.Common.{◌≡◌, None, Some, sym, ap, ◌∙◌}
use Rattle.std.specs.Prelude.{option_map}
use Rattle.std.specs.Option.{option_copied}
use Rattle.std.specs.FinMap as map
use Rattle.imap_world.specs.Indexed.{lists_of}
use Rattle.imap_world.specs.Mailbox.{plain, plain_all}
use Rattle.imap_world.proofs.Contents.{get_plain}
use Rattle.imap_world.proofs.ListsChanged.{acl_in, alike, lists_absent, lists_without}
use Rattle.imap_world.proofs.indexing.remove_from_index.Goals as goal

pub returns-in-Some : goal.returns-in-Some
returns-in-Some c =
    let m = plain_all c.args.mailboxes.now.map in
    let name = c.args.name.now in
    let there : map.get m name ≡ Some (plain c.in-Some.entry.now) = get_plain c.args.mailboxes.now.map name ∙ ap (option_map plain) (sym c.get.ensures ∙ ap option_copied c.in-Some.is) in
    λ index. alike c.remove.new.self _ _ (lists_without m name) (c.remove.ensures (lists_of m) (ap acl_in there) index)

pub returns-in-None : goal.returns-in-None
returns-in-None c =
    let m = plain_all c.args.mailboxes.now.map in
    let name = c.args.name.now in
    let absent : map.get m name ≡ None = get_plain c.args.mailboxes.now.map name ∙ ap (option_map plain) (sym c.get.ensures ∙ ap option_copied c.in-None.is) in
    λ index. alike c.args.index.now _ _ (lists_absent m name absent) index
