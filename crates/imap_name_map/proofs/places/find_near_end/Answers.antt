use Rattle.std.proofs.Common.{length, refl}
use Rattle.imap_name_map.proofs.RunInserts.{gap_at_end}
use Rattle.imap_name_map.proofs.places.find_near_end.Goals as goal

pub returns-then-end_before : goal.returns-then-end_before
returns-then-end_before g c =
    gap_at_end c.args.name.now c.args.entries.now (length c.args.entries.now) c.requires refl (c.end_before.ensures.0 c.if-end_before.true)
