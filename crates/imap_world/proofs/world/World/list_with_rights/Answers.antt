use Rattle.std.proofs.Common.{◌≡◌, Err, None, Some, refl, sym, ap, subst, ◌∙◌}
use Rattle.std.specs.Prelude.{option_map}
use Rattle.std.specs.Option.{option_copied}
use Rattle.std.specs.FinMap as map
use Rattle.imap_world.specs.Changing.{Answers, list_with_rights}
use Rattle.imap_world.specs.Mailbox.{plain, plain_all}
use Rattle.imap_world.specs.Stored.{Stored, world_of}
use Rattle.imap_world.specs.declared.error.WorldError.TheVariants.{NoSuch}
use Rattle.imap_world.proofs.Contents.{get_plain}
use Rattle.imap_world.proofs.world.World.list_with_rights.Goals as goal

pub returns-in-Some : goal.returns-in-Some
returns-in-Some c =
    let there : map.get (world_of c.args.self.now).mailboxes c.args.name.now ≡ Some (plain c.in-Some.mailbox.now) =
    ap (λ (s : Stored). map.get (plain_all s.mailboxes.map) c.args.name.now) (sym c.self.view_is)
    ∙ get_plain c.self.inside.mailboxes.map c.args.name.now ∙ ap (option_map plain) (sym c.get.ensures ∙ ap option_copied c.in-Some.is) in
    subst (λ o. Answers c.changed_acl.result (list_with_rights o c.args.identifier.now c.args.change)) (sym there) c.changed_acl.ensures

pub returns-in-None : goal.returns-in-None
returns-in-None c =
    let absent : map.get (world_of c.args.self.now).mailboxes c.args.name.now ≡ None =
    ap (λ (s : Stored). map.get (plain_all s.mailboxes.map) c.args.name.now) (sym c.self.view_is)
    ∙ get_plain c.self.inside.mailboxes.map c.args.name.now ∙ ap (option_map plain) (sym c.get.ensures ∙ ap option_copied c.in-None.is) in
    subst (λ o. Answers (Err NoSuch) (list_with_rights o c.args.identifier.now c.args.change)) (sym absent) refl
