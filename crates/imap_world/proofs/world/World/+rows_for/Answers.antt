use Rattle.std.proofs.Common.{◌≡◌, false, Ok, rules, sym, ap, subst, ◌∙◌}
use Rattle.std.specs.FinMap as map
use Rattle.imap_world.specs.Changing.{AnswersOrMemory}
use Rattle.imap_world.specs.Effects.{put_of, puts_of, writes_then}
use Rattle.imap_world.specs.Stored.{world_of}
use Rattle.imap_world.specs.Tree.{new_row, rows_for}
use Rattle.imap_world.proofs.Resolved.{found_at}
use Rattle.imap_world.proofs.Superiors.{rows_for-below, rows_for-root}
use Rattle.imap_world.proofs.world.World.+rows_for.Goals.{in-Some+in_ok-change-in-Some, in-None}
use Rattle.imap_world.proofs.world.World.+rows_for.Goals as goal

pub returns : goal.returns
returns t c =
    let world = world_of c.args.self.now in
    let name = c.args.name.now in
    let acl = c.args.acl.now in
    let absent : map.contains_key world.mailboxes name ≡ false = search rules in
    let last : AnswersOrMemory c.with_last_row.result (writes_then (Ok c.match-superior.change) (put_of (new_row world.epochs name acl))) =
    subst (AnswersOrMemory c.with_last_row.result)
    (λ i. writes_then (Ok c.match-superior.change) (put_of (new_row world.epochs (c.in_ok-own.ensures.name i) (c.in_ok-try_copy.ensures i)))) c.with_last_row.ensures in
    elim c.match-superior.branch [
      | in-Some+in_ok-change-in-Some w ↦
          let outer : puts_of (rows_for world acl w.in-Some.above) ≡ Ok c.match-superior.change =
          found_at c.match-superior.change w.rows_for.result (puts_of (rows_for world acl w.in-Some.above)) w.rows_for.ensures w.in_ok-change-in-Some.was w.change-is in
          subst (AnswersOrMemory c.with_last_row.result)
          (ap (λ r. writes_then r (put_of (new_row world.epochs name acl))) (sym outer) ∙ sym (rows_for-below world acl name w.in-Some.above absent (sym c.superior.ensures ∙ w.in-Some.is))) last
      | in-None w ↦
          subst (AnswersOrMemory c.with_last_row.result)
          (ap (λ ws. writes_then (Ok ws) (put_of (new_row world.epochs name acl))) (w.change-is ∙ w.none-change.ensures)
          ∙ sym (rows_for-root world acl name c.in_ok-own.ensures.valid absent (sym c.superior.ensures ∙ w.in-None.is))) last
    ]
