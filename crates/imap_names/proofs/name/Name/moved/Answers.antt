use Rattle.std.proofs.Common.{◌≡◌, ◌++◌, sym, ap, subst, ◌∙◌, Some, drop, length}
use Rattle.std.proofs.lemmas.Bool.{cond-true}
use Rattle.std.specs.Arc.{arc_str_bytes}
use Rattle.imap_names.specs.Order.{moved}
use Rattle.imap_names.specs.Tree.{root_of_tree, name_below}
use Rattle.imap_names.specs.Valid.{IsName}
use Rattle.imap_names.proofs.MovedPaths.{MovesTo, moves_to, IsName-moved, moved_name}
use Rattle.imap_names.proofs.name.Name.moved.Goals as goal

pub with_front-requires : goal.with_front-requires
with_front-requires c =
    let moves : MovesTo c.args.old.now c.args.new.now c.args.self.now (moved c.args.old.now c.args.new.now c.args.self.now) =
    moves_to c.args.old.now c.args.new.now c.args.self.now c.path-2.ensures.valid c.path-3.ensures.valid c.requires in
    (moves.rest, c.path.ensures.path ∙ moves.before ∙ ap (λ z. z ++ moves.rest) (sym c.path-2.ensures.path))

is_moved : (c : goal.In_ok-path) → name_below c.in_ok-tree.tree (arc_str_bytes c.in_ok-path.path) ≡ moved c.args.old.now c.args.new.now c.args.self.now
is_moved c =
    moved_name c.args.old.now c.args.new.now c.args.self.now (root_of_tree c.in_ok-tree.tree) (arc_str_bytes c.in_ok-path.path)
    c.path-2.ensures.valid c.path-3.ensures.valid c.path.ensures.valid c.requires (sym c.fits_moved.ensures ∙ c.if-not-fits_moved.false)
    (ap root_of_tree c.in_ok-tree.ensures ∙ c.tree.ensures.root)
    (c.in_ok-path.ensures ∙ (λ i. c.path-3.ensures.path i ++ drop (length (c.path-2.ensures.path i)) (c.path.ensures.path i)))

pub invariant_of-result : goal.invariant_of-result
invariant_of-result c =
    subst IsName (sym (is_moved c))
    (IsName-moved c.args.old.now c.args.new.now c.args.self.now c.path-2.ensures.valid c.path-3.ensures.valid c.path.ensures.valid c.requires
    (sym c.fits_moved.ensures ∙ c.if-not-fits_moved.false))

pub returns : goal.returns
returns c = ap Some (is_moved c) ∙ sym (cond-true _ _ _ (sym c.fits_moved.ensures ∙ c.if-not-fits_moved.false))
