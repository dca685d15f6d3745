use Rattle.std.proofs.lemmas.Result.{IfOk-weaker}
use Rattle.imap_print.proofs.Wording.{goes_on-append}
use Rattle.imap_print.proofs.printing.fetched.push_item_words.Goals as goal

pub returns : goal.returns
returns c =
    let uid = rw c.widened.ensures at c.in_ok-begun.ensures in
    IfOk-weaker c.push_mod_seq.result _ _
    (λ now last. goes_on-append (goes_on-append (goes_on-append (goes_on-append uid c.in_ok-begun-2.ensures) c.in_ok-begun-3.ensures) c.in_ok-begun-4.ensures) last) c.push_mod_seq.ensures
