use Rattle.std.proofs.Common.{◌≡◌, false, length}
use Rattle.imap_syntax.specs.Lexical.{quoted_read}
use Rattle.imap_syntax.proofs.Strings.{with_front}
use Rattle.imap_syntax.proofs.cursor.Cursor.quoted_end.Given as goal

abbrev pub invariant-loop-value : goal.invariant-loop-value
invariant-loop-value l = with_front l.value.items (quoted_read false l.self) ≡ quoted_read false l.fn.self

abbrev pub decreases-loop-value : goal.decreases-loop-value
decreases-loop-value l = length l.self
