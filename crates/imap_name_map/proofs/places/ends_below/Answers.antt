use Rattle.std.proofs.Common.{◌≡◌, true, subst}
use Rattle.std.specs.Prelude.{◌↔◌}
use Rattle.imap_name_map.proofs.Runs.{last_is_below}
use Rattle.imap_name_map.proofs.places.ends_below.Goals as goal

pub returns-in-Some : goal.returns-in-Some
returns-in-Some g c =
    last_is_below c.args.top.now c.args.entries.now c.in-Some.entry.now c.is_same.result c.requires.sorted c.requires.run c.in-Some.ensures.item.3.0 c.in-Some.ensures.item.1
    (subst (λ n. (c.is_same.result ≡ true) ↔ (n ≡ c.args.top.now)) c.as_ref.ensures.name c.is_same.ensures)
