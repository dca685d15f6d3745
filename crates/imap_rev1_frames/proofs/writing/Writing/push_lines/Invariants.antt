use Rattle.std.proofs.Common.{◌≡◌, [], ◌++◌, length}
use Rattle.imap_rev1_frames.specs.Rewritten.{written_after, asked_after}
use Rattle.imap_rev1_frames.proofs.writing.Writing.push_lines.Given as goal

abbrev pub invariant-loop-len : goal.invariant-loop-len
invariant-loop-len l = record {
  out : l.self.out.items ++ written_after 0 l.self.scan l.rest ≡ l.fn.self.out.items ++ written_after 0 l.fn.self.scan l.octets;
  asked : l.self.asked.items ++ asked_after 0 l.self.scan l.rest ≡ l.fn.self.asked.items ++ asked_after 0 l.fn.self.scan l.octets;
  word : l.self.word.items ≡ [];
}

abbrev pub decreases-loop-len : goal.decreases-loop-len
decreases-loop-len l = length l.rest
