use Rattle.std.proofs.Common.{◌≡◌, ◌≤◌, ◌+◌, drop}
use Rattle.std.specs.Prelude.{count_by}
use Rattle.imap_structure.specs.Parts.{is_line_feed}
use Rattle.imap_structure.proofs.lines.line_count.Given as goal

abbrev pub invariant-loop-octet : goal.invariant-loop-octet
invariant-loop-octet l = record {
  count : l.count + count_by is_line_feed (drop l.octet-index l.octets) ≡ count_by is_line_feed l.octets;
  within : l.count ≤ l.octet-index;
}
