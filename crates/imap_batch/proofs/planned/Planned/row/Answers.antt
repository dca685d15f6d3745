use Rattle.std.proofs.Common.{◌∷◌, ◌≤◌, drop, length, sym, ap, ◌∙◌, arith}
use Rattle.imap_mailbox.specs.Lent.{row_shown}
use Rattle.imap_batch.specs.Planned.{added_by}
use Rattle.imap_batch.proofs.Walking.{ended}
use Rattle.imap_batch.proofs.planned.Planned.row.Goals as goal

pub returns-in-Some : goal.returns-in-Some
returns-in-Some c =
    let p = c.self.inside in
    let le : length p.rows ≤ p.place = omega (arith, c.if-self-len.false, c.len.ensures) in
    let is = sym c.self.view_is ∙ ended p.expunged.now p.rows p.place p.marks (added_by p.added) le ∙ c.in-Some.ensures.rows in
    is ∙ ap (λ rows. row_shown c.in-Some.row ∷ rows) (sym (ap (drop 1) is))

pub returns-in-None : goal.returns-in-None
returns-in-None c =
    let p = c.self.inside in
    let le : length p.rows ≤ p.place = omega (arith, c.if-self-len.false, c.len.ensures) in
    sym c.self.view_is ∙ ended p.expunged.now p.rows p.place p.marks (added_by p.added) le ∙ c.in-None.ensures.rows
