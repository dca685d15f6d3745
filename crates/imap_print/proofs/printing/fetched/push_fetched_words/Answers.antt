use Rattle.std.specs.List.{concat}
use Rattle.std.proofs.lemmas.Result.{IfOk-weaker}
use Rattle.imap_print.proofs.Wording.{goes_on-append, goes_on_after}
use Rattle.imap_print.proofs.printing.fetched.push_fetched_words.Goals as goal

pub returns : goal.returns
returns c =
    let words = goes_on_after (concat c.args.out.now.done.items) c.in_ok-begun.ensures in
    let bodies = rw c.as_slice.ensures at c.push_bodies.ensures in
    IfOk-weaker c.push_bodies.result _ _ (λ now last. goes_on-append words last) bodies
