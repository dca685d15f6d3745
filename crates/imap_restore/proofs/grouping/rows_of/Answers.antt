use Rattle.std.proofs.Common.{◌∙◌, ℤ, ap, of_z, to_z, w64}
use Rattle.std.proofs.lemmas.Int.{to_z-of_z}
use Rattle.imap_restore.specs.Parts.{below}
use Rattle.imap_restore.proofs.Grouped.{front}
use Rattle.imap_restore.proofs.grouping.rows_of.Goals as goal

pub returns : goal.returns
returns g c =
    let n : ℤ = to_z w64 (of_z w64 c.args.id) in
    c.split_at-2.ensures.front ∙ c.count_own.ensures.own ∙ ap (below g.T.Restore.mailbox n) c.split_at.ensures.back
    ∙ front g.T.Restore.mailbox n c.args.rows.now c.count_lower.result c.count_lower.ensures.point
    ∙ ap (λ k. below g.T.Restore.mailbox k c.args.rows.now) (to_z-of_z w64 c.args.id c.ranges.id)
