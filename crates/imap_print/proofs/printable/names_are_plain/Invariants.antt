use Rattle.std.proofs.Common.{drop}
use Rattle.std.specs.List.{AllByRecursion}
use Rattle.imap_print.specs.Lines.{IsPlain}
use Rattle.imap_print.proofs.printable.names_are_plain.Given as goal

abbrev pub invariant-loop-name : goal.invariant-loop-name
invariant-loop-name l = AllByRecursion IsPlain (drop l.name-index l.names) → AllByRecursion IsPlain l.names
