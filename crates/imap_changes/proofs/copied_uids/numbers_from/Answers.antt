use Rattle.std.proofs.Common.{◌∙◌, ◌+◌, ◌++◌, ◌∷◌, [], ap, sym}
use Rattle.imap_changes.proofs.CopiesTold.{one_more}
use Rattle.imap_changes.proofs.copied_uids.numbers_from.Goals as goal

pub loop-index-preserved : goal.loop-index-preserved
loop-index-preserved c =
    c.in_ok-push.ensures.items
    ∙ ap (λ ns. ns ++ (c.args.first + c.loop-index.index) ∷ []) c.loop-index.invariant
    ∙ sym (one_more c.args.first c.loop-index.index)
