use Rattle.std.proofs.Common.{length, ap, arith}
use Rattle.imap_names.proofs.MovedPaths.{moves_to}
use Rattle.imap_names.proofs.moving.moved_octets.Goals as goal

pub overflow_sub-result : goal.overflow_sub-result
overflow_sub-result c =
    let moves = moves_to c.args.old.now c.args.new.now c.args.name.now c.path-3.ensures.valid c.path.ensures.valid c.requires in
    omega (arith, moves.octets, ap length c.path.ensures.path, ap length c.path-2.ensures.path, ap length c.path-3.ensures.path)

pub returns : goal.returns
returns c =
    let moves = moves_to c.args.old.now c.args.new.now c.args.name.now c.path-3.ensures.valid c.path.ensures.valid c.requires in
    omega (arith, moves.octets, ap length c.path.ensures.path, ap length c.path-2.ensures.path, ap length c.path-3.ensures.path)
