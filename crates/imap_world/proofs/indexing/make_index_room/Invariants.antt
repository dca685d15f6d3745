use Rattle.imap_identifier_index.specs.Index.{IsKept}
use Rattle.imap_world.proofs.indexing.make_index_room.Given as goal

abbrev pub invariant-loop-write : goal.invariant-loop-write
invariant-loop-write l = IsKept l.fn.index l.index
