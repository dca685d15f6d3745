use Rattle.std.proofs.Common.{length, ap, arith}
use Rattle.imap_names.proofs.MovedPaths.{few_parts, moves_to}
use Rattle.imap_names.proofs.moving.moved_depth.Goals as goal

pub overflow_add-result : goal.overflow_add-result
overflow_add-result c =
    omega (
      arith,
      c.depth.ensures,
      c.depth-2.ensures,
      ap length c.as_ref.ensures.name,
      ap length c.as_ref-2.ensures.name,
      few_parts c.args.new.now c.as_ref.ensures.valid,
      few_parts c.args.name.now c.as_ref-2.ensures.valid,
    )

pub overflow_sub-result : goal.overflow_sub-result
overflow_sub-result c =
    let moves = moves_to c.args.old.now c.args.new.now c.args.name.now c.as_ref-3.ensures.valid c.as_ref.ensures.valid c.requires in
    omega (arith, moves.depth, c.depth.ensures, c.depth-2.ensures, c.depth-3.ensures, ap length c.as_ref.ensures.name, ap length c.as_ref-2.ensures.name, ap length c.as_ref-3.ensures.name)

pub returns : goal.returns
returns c =
    let moves = moves_to c.args.old.now c.args.new.now c.args.name.now c.as_ref-3.ensures.valid c.as_ref.ensures.valid c.requires in
    omega (arith, moves.depth, c.depth.ensures, c.depth-2.ensures, c.depth-3.ensures, ap length c.as_ref.ensures.name, ap length c.as_ref-2.ensures.name, ap length c.as_ref-3.ensures.name)
