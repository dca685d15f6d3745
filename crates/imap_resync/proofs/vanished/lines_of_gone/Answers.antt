use Rattle.std.proofs.Common.{◌≡◌, true, ap, ◌∙◌}
use Rattle.std.proofs.lemmas.Result.{IfOk-weaker}
use Rattle.imap_print.specs.Sets.{rise_above}
use Rattle.imap_resync.specs.Vanished.{earlier_line}
use Rattle.imap_resync.proofs.Vanishing.{found_above, found_vanished}
use Rattle.imap_resync.proofs.vanished.lines_of_gone.Goals as goal

pub returns-clause-lines : goal.returns-clause-lines
returns-clause-lines c =
    let since = c.args.since in
    let uids = c.args.uids.now in
    let gone = c.args.gone.now in
    let found = c.in_ok-vanished.vanished.items in
    let same = c.in_ok-vanished.ensures.same in
    let sorted = c.in_ok-vanished.ensures.sorted in
    IfOk-weaker c.earlier_lines.result (λ lines. rise_above 0 found ≡ true → lines.items ≡ earlier_line found) _
    (λ lines h next highest order.
    h (found_above next since uids gone order.uids found same sorted)
    ∙ ap earlier_line (found_vanished next since uids gone order.uids found same sorted))
    c.earlier_lines.ensures.lines
