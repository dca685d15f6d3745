use Rattle.std.proofs.Common.{◌≡◌, ◌++◌, ◌∷◌, subst, rules, sym, ap, ◌∙◌}
use Rattle.std.proofs.Math.Seq.{take-length}
use Rattle.std.specs.Arc.{arc_str_bytes}
use Rattle.std.specs.Prelude.{codes, bytes_eq}
use Rattle.imap_names.specs.Showing.{shown}
use Rattle.imap_names.specs.Tree.{root_of_tree}
use Rattle.imap_names.specs.Valid.{IsName}
use Rattle.imap_names.proofs.ViewLaws.{root_is, path_is}
use Rattle.imap_names.proofs.ShownLaws.{shown_reads_back, shown-shared, shown-own, shown-other}
use Rattle.imap_names.proofs.show.show_name.Goals as goal

pub returns-then-is_empty-clause-text : goal.returns-then-is_empty-clause-text
returns-then-is_empty-clause-text c =
    let root = root_is (root_of_tree c.name.inside.tree) (arc_str_bytes c.name.inside.path) c.args.name.now c.name.view_is ∙ sym c.root-owner.ensures in
    let path = path_is (root_of_tree c.name.inside.tree) (arc_str_bytes c.name.inside.path) c.args.name.now c.name.view_is ∙ sym c.as_str-path.ensures.value in
    let text : shown c.args.user.now c.args.name.now ≡ codes "Shared/" ++ c.as_str-path.result.now =
    shown-shared c.args.user.now c.args.name.now c.root-owner.result.now c.as_str-path.result.now root path (sym c.if-is_empty.ensures) in
    rw text (search rules)

pub returns-then-is_empty-clause-reads_back : goal.returns-then-is_empty-clause-reads_back
returns-then-is_empty-clause-reads_back c =
    shown_reads_back c.args.user.now c.args.name.now (subst IsName c.name.view_is c.name.invariant)

pub returns-then-eq-clause-text : goal.returns-then-eq-clause-text
returns-then-eq-clause-text c =
    let root = root_is (root_of_tree c.name.inside.tree) (arc_str_bytes c.name.inside.path) c.args.name.now c.name.view_is ∙ sym c.root-owner.ensures in
    let path = path_is (root_of_tree c.name.inside.tree) (arc_str_bytes c.name.inside.path) c.args.name.now c.name.view_is ∙ sym c.as_str-path.ensures.value in
    let text : shown c.args.user.now c.args.name.now ≡ c.as_str-path.result.now =
    shown-own c.args.user.now c.args.name.now c.root-owner.result.now c.as_str-path.result.now root path (sym c.if-is_empty.ensures)
    (ap (bytes_eq c.root-owner.result.now) (sym c.as_str.ensures.text) ∙ sym c.if-eq.ensures) in
    rw text (search rules)

pub returns-then-eq-clause-reads_back : goal.returns-then-eq-clause-reads_back
returns-then-eq-clause-reads_back c =
    shown_reads_back c.args.user.now c.args.name.now (subst IsName c.name.view_is c.name.invariant)

pub returns-else-eq-clause-text : goal.returns-else-eq-clause-text
returns-else-eq-clause-text c =
    let root = root_is (root_of_tree c.name.inside.tree) (arc_str_bytes c.name.inside.path) c.args.name.now c.name.view_is ∙ sym c.root-owner.ensures in
    let path = path_is (root_of_tree c.name.inside.tree) (arc_str_bytes c.name.inside.path) c.args.name.now c.name.view_is ∙ sym c.as_str-path.ensures.value in
    let text : shown c.args.user.now c.args.name.now ≡ codes "Other Users/" ++ (c.root-owner.result.now ++ 47 ∷ c.as_str-path.result.now) =
    shown-other c.args.user.now c.args.name.now c.root-owner.result.now c.as_str-path.result.now root path (sym c.if-is_empty.ensures)
    (ap (bytes_eq c.root-owner.result.now) (sym c.as_str.ensures.text) ∙ sym c.if-eq.ensures) in
    rw text (rw (take-length c.root-owner.result.now) at c.format-else-eq.ensures.ok)

pub returns-else-eq-clause-reads_back : goal.returns-else-eq-clause-reads_back
returns-else-eq-clause-reads_back c =
    shown_reads_back c.args.user.now c.args.name.now (subst IsName c.name.view_is c.name.invariant)
