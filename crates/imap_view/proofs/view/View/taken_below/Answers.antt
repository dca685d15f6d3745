use Rattle.std.proofs.Common.{◌∙◌}
use Rattle.imap_view.proofs.Listings.{first_taken}
use Rattle.imap_view.proofs.view.View.taken_below.Goals as goal

pub returns : goal.returns
returns c =
    c.is_some.ensures
    ∙ first_taken c.args.name.now c.args.self.now.taken c.taken_names.result c.next.new.self c.next.result c.taken_names.ensures c.next.ensures.steps
