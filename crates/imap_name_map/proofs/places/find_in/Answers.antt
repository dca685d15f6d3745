use Rattle.std.proofs.Common.{sym, ap, Some, ◌∙◌}
use Rattle.imap_name_map.proofs.Maps.{found}
use Rattle.imap_name_map.proofs.places.find_in.Goals as goal

pub returns-in-Ok : goal.returns-in-Ok
returns-in-Ok g c =
    ap (λ e. Some e.1) (sym c.index-entries-place.is)
    ∙ found c.args.entries.now c.args.name.now c.in-Ok.place c.index-entries-place.result c.in-Ok.ensures c.index-entries-place.is
