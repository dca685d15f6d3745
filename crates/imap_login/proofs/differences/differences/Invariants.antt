use Rattle.std.proofs.Common.{◌≡◌, ◌+◌, ◌≤◌, length, drop}
use Rattle.imap_login.specs.Differences.{differences}
use Rattle.imap_login.proofs.differences.differences.Given as goal

abbrev pub invariant-loop-octet : goal.invariant-loop-octet
invariant-loop-octet l =
    (l.count + differences l.left (drop l.octet-index l.given) ≡ differences l.fn.wanted l.given) × (l.count ≤ l.octet-index) × (length l.left ≤ length l.fn.wanted)
