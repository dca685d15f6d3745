use Rattle.std.proofs.Common.{ap, w64, ◌∙◌}
use Rattle.std.specs.BTreeSet as sorted
use Rattle.std.specs.Ordering.{int_cmp}
use Rattle.std.proofs.lemmas.Int.{to_z-of_z}
use Rattle.imap_restore.proofs.parts.has_id.Goals as goal

pub returns : goal.returns
returns c = c.contains.ensures ∙ ap (sorted.contains int_cmp c.args.ids.now) (to_z-of_z w64 c.args.id c.ranges.id)
