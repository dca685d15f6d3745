use Rattle.std.proofs.Common.{◌≡◌, ◌++◌}
use Rattle.std.specs.Prelude.{flat_map}
use Rattle.std.specs.List.{AllByRecursion}
use Rattle.imap_print.specs.Lines.{IsPrintable}
use Rattle.imap_list.specs.ListCommand.{responses_of}
use Rattle.imap_list.proofs.list_command.responses_of_lines.Given as goal

abbrev pub invariant-loop-line : goal.invariant-loop-line
invariant-loop-line l = record {
  lines : l.responses.items ++ flat_map (responses_of l.context.view l.arguments) l.line-iterator.rest.items ≡ flat_map (responses_of l.context.view l.arguments) l.fn.lines.items;
  printable : AllByRecursion IsPrintable l.responses.items;
}
