use Rattle.std.proofs.Common.{◌≡◌, ◌<◌, ◌^◌, ◌++◌, drop}
use Rattle.imap_print.specs.Sets.{runs_from}
use Rattle.imap_print.proofs.Runs.{ranges_text}
use Rattle.imap_print.proofs.printing.numbers.push_runs.Given as goal

abbrev pub invariant-loop-next : goal.invariant-loop-next
invariant-loop-next l = record {
  small : l.last < 2 ^ 32;
  left : l.out.items ++ ranges_text (runs_from l.first l.last (drop l.next-index l.rest)) ≡ l.initial.out.items ++ ranges_text (runs_from l.number l.number l.rest);
}
