use Rattle.std.proofs.Common.{◌<◌, length, sym, ap, ◌∙◌, Some, arith}
use Rattle.imap_batch.specs.Planned.{added_by, first_uid}
use Rattle.imap_batch.proofs.Walking.{first_uid_left, row_at}
use Rattle.imap_batch.proofs.planned.Planned.uid.Goals as goal

pub returns-then-self-len : goal.returns-then-self-len
returns-then-self-len c =
    let p = c.self.inside in
    let lt : p.place < length p.rows = omega (arith, c.if-self-len.true, c.len.ensures) in
    let at = row_at p.rows p.place lt in
    ap Some (c.uid.ensures at.row at.is)
    ∙ sym (first_uid_left p.expunged.now p.rows p.place p.marks (added_by p.added) lt c.self.invariant.starts) ∙ ap first_uid c.self.view_is
