use Rattle.std.proofs.lemmas.Result.{IfOk-weaker}
use Rattle.imap_print.proofs.Wording.{goes_on-append}
use Rattle.imap_print.proofs.printing.flags.push_system_flags.Goals as goal

pub returns : goal.returns
returns c =
    IfOk-weaker c.push_given-5.result _ _
    (λ now last. goes_on-append (goes_on-append (goes_on-append (goes_on-append c.in_ok-begun.ensures c.in_ok-begun-2.ensures) c.in_ok-begun-3.ensures) c.in_ok-begun-4.ensures) last) c.push_given-5.ensures
