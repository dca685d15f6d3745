use Rattle.std.proofs.Common.{◌++◌, append_assoc, sym, ap, ◌∙◌}
use Rattle.std.specs.Prelude.{flat_map}
use Rattle.std.specs.Vec.Iter.{into_iter_items}
use Rattle.imap_list.specs.ListCommand.{responses_of}
use Rattle.imap_list.proofs.list_command.responses_of_lines.Goals as goal

pub loop-line-preserved : goal.loop-line-preserved
loop-line-preserved c =
    let meant = responses_of c.args.context.now.view c.args.arguments.now in
    let rest = flat_map meant (into_iter_items c.next.new.self) in
    record {
      lines = ap (λ responses. responses ++ rest) c.in_ok-push_responses.ensures.lines
          ∙ append_assoc c.loop-line.responses.items (meant c.in-Some.line) rest
          ∙ ap (λ lines. c.loop-line.responses.items ++ flat_map meant lines) (sym c.in-Some.ensures.steps.0)
          ∙ c.loop-line.invariant.lines;
      printable = c.in_ok-push_responses.ensures.printable;
    }
