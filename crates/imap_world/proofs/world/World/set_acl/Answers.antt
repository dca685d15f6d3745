use Rattle.std.proofs.Common.{ap, ◌∙◌}
use Rattle.imap_world.specs.Changing.{Changes, world_with_rights}
use Rattle.imap_world.specs.Stored.{Stored, world_of}
use Rattle.imap_world.specs.Tree.{with_acl}
use Rattle.imap_world.specs.declared.error.WorldError.TheVariants.{Memory}
use Rattle.imap_world.proofs.Granted.{list_refused, list_without_room, list_written, passed}
use Rattle.imap_world.proofs.world.World.set_acl.Goals as goal

pub returns-in_err-acl-clause-world : goal.returns-in_err-acl-clause-world
returns-in_err-acl-clause-world c =
    let world = world_of c.args.self.now in
    let meant = world_with_rights world c.args.name.now c.args.identifier c.args.change in
    passed (λ r. Changes r world meant) c.from_residual.result c.in_err-acl.field-0.0 c.from_residual.ensures
    (list_refused world c.args.name.now c.args.identifier c.args.change world c.in_err-acl.field-0.0 c.in_err-acl.ensures)

pub returns-in_err-make_room_for_list-clause-world : goal.returns-in_err-make_room_for_list-clause-world
returns-in_err-make_room_for_list-clause-world c =
    let world = world_of c.args.self.now in
    let meant = world_with_rights world c.args.name.now c.args.identifier c.args.change in
    let after = world_of c.make_room_for_list.new.self in
    passed (λ r. Changes r after meant) c.from_residual-in_err-make_room_for_list.result Memory c.from_residual-in_err-make_room_for_list.ensures
    (list_without_room world c.args.name.now c.args.identifier c.args.change after c.in_ok-acl.acl c.in_ok-acl.ensures)

pub returns-clause-world : goal.returns-clause-world
returns-clause-world c =
    list_written (world_of c.args.self.now) c.args.name.now c.args.identifier c.args.change (world_of c.put_list.new.self) c.in_ok-acl.acl c.in_ok-acl.ensures
    (c.put_list.ensures.world ∙ ap (λ (s : Stored). with_acl (world_of s) c.args.name.now c.in_ok-acl.acl) c.make_room_for_list.ensures)
