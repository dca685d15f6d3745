use Rattle.std.proofs.Common.{sym, ap, Some, ◌∙◌}
use Rattle.imap_name_map.proofs.Maps.{found}
use Rattle.imap_name_map.proofs.sameness.find_near.Goals as goal

pub returns-then-found-entries : goal.returns-then-found-entries
returns-then-found-entries g c =
    ap (λ e. Some e.1) (sym c.index-entries-found.is)
    ∙ found c.args.entries.now c.args.name.now c.place_near-found.result c.index-entries-found.result (c.place_near-found.ensures.there c.if-found-entries.true) c.index-entries-found.is
