use Rattle.std.proofs.Common.{drop}
use Rattle.std.specs.List.{AllByRecursion}
use Rattle.imap_print.specs.Lines.{IsPlain, IsHeld}
use Rattle.imap_print.proofs.Plain.{names_of, octets_of}
use Rattle.imap_print.proofs.printable.sections_are_plain.Given as goal

abbrev pub invariant-loop-section : goal.invariant-loop-section
invariant-loop-section l = record {
  plain : AllByRecursion IsPlain (names_of (drop l.section-index l.sections)) → AllByRecursion IsPlain (names_of l.sections);
  held : AllByRecursion IsHeld (octets_of (drop l.section-index l.sections)) → AllByRecursion IsHeld (octets_of l.sections);
}
