use Rattle.std.proofs.Common.{◌≡◌, []}
use Rattle.std.specs.Vec.Iter.{into_iter_items}
use Rattle.imap_rev1_frames.specs.Asked.{without_repeats}
use Rattle.imap_rev1_frames.proofs.asked.without_repeats.Given as goal

abbrev pub invariant-loop-asked : goal.invariant-loop-asked
invariant-loop-asked l = without_repeats l.kept.items (into_iter_items l.asked-iterator) ≡ without_repeats [] l.fn.all.items
