use Rattle.std.proofs.Common.{length}
use Rattle.imap_text.proofs.Cutting.{IsCutTo}
use Rattle.imap_text.proofs.field_index.FieldIndex.new.Given as goal

abbrev pub invariant-loop-field : goal.invariant-loop-field
invariant-loop-field l = IsCutTo l.octets l.bounds.items l.named l.len l.rest

abbrev pub decreases-loop-field : goal.decreases-loop-field
decreases-loop-field l = length l.rest
