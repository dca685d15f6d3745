use Rattle.std.proofs.Common.{map, sym, subst, ◌∙◌}
use Rattle.std.proofs.lemmas.Result.{IfOk-weaker}
use Rattle.imap_print.specs.Lines.{AreReadFrom}
use Rattle.imap_print.specs.Printed.{line}
use Rattle.imap_print.proofs.OneLine.{all_are_read}
use Rattle.imap_print.proofs.printing.print.Goals as goal

pub returns-clause-lines : goal.returns-clause-lines
returns-clause-lines c =
    let responses = c.args.responses.now in
    IfOk-weaker c.into_octets.result _ _
    (λ out octets. λ are_printable. subst (AreReadFrom (map line responses)) (sym (octets ∙ c.in_ok-print_all.ensures)) (all_are_read responses are_printable)) c.into_octets.ensures
