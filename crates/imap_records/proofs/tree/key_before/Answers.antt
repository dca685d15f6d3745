use Rattle.std.proofs.Common.{◌++◌, drop, length, sym, ap, ◌∙◌, arith}
use Rattle.std.proofs.lemmas.Bool.{ltb-true}
use Rattle.imap_names.specs.Name.{root_of}
use Rattle.imap_names.proofs.MovedLaws.{root_of-moved}
use Rattle.imap_names.proofs.MovedPaths.{moved_path, moves_to}
use Rattle.imap_names.proofs.PathLaws.{has_component}
use Rattle.imap_records.specs.Columns.{tree_at}
use Rattle.imap_records.proofs.tree.key_before.Goals as goal

pub text_with_front-requires : goal.text_with_front-requires
text_with_front-requires c =
    let m = moves_to c.args.new.now c.args.old.now c.args.to.now c.path-2.ensures.valid c.path-3.ensures.valid c.requires in
    (m.rest, c.path.ensures.path ∙ m.before ∙ ap (λ t. t ++ m.rest) (sym c.path-2.ensures.path))

pub returns-clause-tree : goal.returns-clause-tree
returns-clause-tree c =
    c.in_ok-tree.ensures
    ∙ ap tree_at
    (c.root.ensures.root ∙ ap root_of c.as_ref.ensures.name
    ∙ sym (root_of-moved c.args.new.now c.args.old.now c.args.to.now (omega (arith, ltb-true 1 (length c.args.old.now) (has_component c.args.old.now c.path-3.ensures.valid))) c.requires))

pub returns-clause-path : goal.returns-clause-path
returns-clause-path c =
    c.in_ok-path.ensures
    ∙ (λ i. c.path-3.ensures.path i ++ drop (length (c.path-2.ensures.path i)) (c.path.ensures.path i))
    ∙ sym (moved_path c.args.new.now c.args.old.now c.args.to.now c.path-2.ensures.valid c.path-3.ensures.valid c.requires)
