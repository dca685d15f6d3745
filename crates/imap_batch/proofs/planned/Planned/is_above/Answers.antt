use Rattle.std.proofs.Common.{◌<◌, length, nat_lt, sym, ap, ◌∙◌, arith}
use Rattle.imap_mailbox.specs.Rows.{Row}
use Rattle.imap_batch.specs.Planned.{added_by}
use Rattle.imap_batch.proofs.Walking.{head_is, row_at}
use Rattle.imap_batch.proofs.planned.Planned.is_above.Goals as goal

pub returns-then-not-is_marked : goal.returns-then-not-is_marked
returns-then-not-is_marked c =
    λ row later e.
    let p = c.self.inside in
    let lt : p.place < length p.rows = omega (arith, c.if-self-len.true, c.len.ensures) in
    let at = row_at p.rows p.place lt in
    let stays = c.is_marked.ensures at.row (sym (c.uid.ensures at.row at.is)) c.if-not-is_marked.true in
    c.is_above.ensures at.row at.is
    ∙ ap (λ (r : Row). nat_lt c.args.number r.number)
    (sym stays ∙ head_is p.expunged.now p.rows p.place p.marks (added_by p.added) lt c.self.invariant.starts row later (c.self.view_is ∙ e))
