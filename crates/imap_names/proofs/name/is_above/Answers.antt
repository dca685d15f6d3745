use Rattle.std.proofs.Common.{◌≡◌, true, false, ◌++◌, sym, ap, ◌∙◌}
use Rattle.std.proofs.lemmas.Str.Pattern.{starts_text}
use Rattle.std.specs.Arc.{arc_str_bytes}
use Rattle.std.specs.Prelude.{codes}
use Rattle.imap_names.specs.Tree.{root_of_tree}
use Rattle.imap_names.proofs.ViewLaws.{above_answer, above_never}
use Rattle.imap_names.proofs.name.is_above.Goals as goal

pub returns-in-Some : goal.returns-in-Some
returns-in-Some c =
    let above = c.as_str-2.ensures.value in
    let parted = c.in-Some.ensures.cases in
    above_answer
    (root_of_tree c.above.inside.tree) (arc_str_bytes c.above.inside.path) c.args.above.now c.above.view_is
    (root_of_tree c.below.inside.tree) (arc_str_bytes c.below.inside.path) c.args.below.now c.below.view_is
    (c.is_same.ensures.0 c.if-not-is_same.false) c.in-Some.rest.now
    (sym c.as_str.ensures.value ∙ parted.1.1 ∙ ap (λ z. c.as_str-2.result.now ++ z) (sym parted.2) ∙ ap (λ z. z ++ c.in-Some.rest.now) above)
    c.starts_with.result (starts_text c.starts_with.result (codes "/") c.in-Some.rest.now c.starts_with.ensures.cases)

pub returns-in-None : goal.returns-in-None
returns-in-None c = (
  λ t. let clash : false ≡ true = t in cc,
  λ above.
      absurd (above_never
      (root_of_tree c.above.inside.tree) (arc_str_bytes c.above.inside.path) c.args.above.now c.above.view_is
      (root_of_tree c.below.inside.tree) (arc_str_bytes c.below.inside.path) c.args.below.now c.below.view_is
      (λ rest e. c.in-None.ensures.cases rest (c.as_str.ensures.value ∙ e ∙ ap (λ z. z ++ rest) (sym c.as_str-2.ensures.value))) above),
)
