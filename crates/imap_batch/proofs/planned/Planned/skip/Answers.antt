use Rattle.std.proofs.Common.{◌<◌, ◌≤◌, ◌++◌, drop, length, sym, ap, ◌∙◌, arith}
use Rattle.imap_batch.specs.Planned.{added_by}
use Rattle.imap_batch.proofs.Walking.{ended, stepped}
use Rattle.imap_batch.proofs.planned.Planned.skip.Goals as goal

pub returns-then-self-len : goal.returns-then-self-len
returns-then-self-len c =
    let p = c.self.inside in
    let lt : p.place < length p.rows = omega (arith, c.if-self-len.true, c.len.ensures) in
    let one = stepped p.expunged.now p.rows p.place c.uid.result p.marks c.marks_after-marks.result lt c.uid.ensures c.marks_after-marks.ensures.rows c.self.invariant.starts in
    ap (λ rows. rows ++ added_by p.added) c.first_left-place.ensures.rows
    ∙ sym (ap (λ rows. drop 1 (rows ++ added_by p.added)) one) ∙ ap (drop 1) c.self.view_is

pub returns-in-Some : goal.returns-in-Some
returns-in-Some c =
    let p = c.self.inside in
    let le : length p.rows ≤ p.place = omega (arith, c.if-self-len.false, c.len.ensures) in
    ended p.expunged.now p.rows p.place p.marks (added_by c.in-Some.added) le
    ∙ sym (ap (drop 1) (ended p.expunged.now p.rows p.place p.marks (added_by p.added) le ∙ c.in-Some.ensures.rows))
    ∙ ap (drop 1) c.self.view_is

pub returns-in_default : goal.returns-in_default
returns-in_default c =
    let p = c.self.inside in
    let le : length p.rows ≤ p.place = omega (arith, c.if-self-len.false, c.len.ensures) in
    let none = sym c.self.view_is ∙ ended p.expunged.now p.rows p.place p.marks (added_by p.added) le ∙ c.in_default.ensures.rows in
    none ∙ sym (ap (drop 1) none)
