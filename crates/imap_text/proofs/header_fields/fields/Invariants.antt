use Rattle.std.proofs.Common.{length}
use Rattle.imap_text.proofs.Chosen.{IsGathered}
use Rattle.imap_text.proofs.header_fields.fields.Given as goal

abbrev pub invariant-loop-field : goal.invariant-loop-field
invariant-loop-field l = IsGathered l.names l.not l.message l.parts.items l.start l.len l.rest

abbrev pub decreases-loop-field : goal.decreases-loop-field
decreases-loop-field l = length l.rest
