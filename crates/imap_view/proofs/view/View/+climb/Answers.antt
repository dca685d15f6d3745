use Rattle.std.proofs.Common.{◌||◌, ◌&&◌, sym, ap, ◌∙◌}
use Rattle.imap_view.specs.TreeAfter.{is_known}
use Rattle.imap_view.proofs.Climbing.{is_left, left_below}
use Rattle.imap_view.proofs.view.View.+climb.Goals as goal

pub returns-in-Some-clause-left : goal.returns-in-Some-clause-left
returns-in-Some-clause-left t c =
    let view = c.args.self.now in
    let name = c.args.name.now in
    c.climb_to.ensures.left ∙ ap (λ b. is_known view name || (b && is_left view name)) c.climb-climb.ensures.left
    ∙ sym (left_below view name c.in-Some.above (sym c.superior.ensures ∙ c.in-Some.is))
