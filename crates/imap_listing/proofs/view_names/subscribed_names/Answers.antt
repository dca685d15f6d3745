use Rattle.std.proofs.Common.{ap, sym, ◌∙◌}
use Rattle.std.specs.FinMap as fin
use Rattle.imap_listing.specs.ViewNames.{shown_names}
use Rattle.imap_listing.proofs.Finding.{entries_empty}
use Rattle.imap_listing.proofs.view_names.subscribed_names.Goals as goal

pub returns-in-None : goal.returns-in-None
returns-in-None c =
    c.new.ensures.items
    ∙ ap (shown_names c.args.view.now) (sym entries_empty ∙ ap fin.entries c.in-None.ensures)
