use Rattle.std.proofs.Common.{rules, take, drop, flat_map, length, ◌-◌, subst, length-drop}
use Rattle.std.proofs.lemmas.List.{take_all}
use Rattle.std.specs.Io.KnownBytes.{Appends}
use Rattle.imap_serve.specs.Reading.{AppendsPart}
use Rattle.imap_serve.proofs.Pieces.{pieces_more, pieces_part}
use Rattle.imap_serve.proofs.telling.say_by.Goals as goal

pub loop-done-preserved : goal.loop-done-preserved
loop-done-preserved g c =
    let f = g.D.Dialect.octets c.args.rule.now in
    let done = c.loop-done.done in
    let count = c.in-Ok.count in
    let xs = c.args.replies.now in
    let old = g.O.Write.contents c.args.output.now.inner in
    let mid = g.O.Write.contents c.loop-done.output.inner in
    let new = g.O.Write.contents c.say_first.new.output.inner in (
      search (rules, length-drop),
      pieces_more f old mid new done xs c.loop-done.invariant.1 count
          (subst (λ l. Appends mid new (flat_map f (take count l))) (take_all (length xs - done) (drop done xs) (search (rules, length-drop))) c.in-Ok.ensures.ok.0),
    )

pub returns-in-Err-clause-err : goal.returns-in-Err-clause-err
returns-in-Err-clause-err g c =
    let f = g.D.Dialect.octets c.args.rule.now in
    let done = c.loop-done.done in
    let xs = c.args.replies.now in
    let old = g.O.Write.contents c.args.output.now.inner in
    let mid = g.O.Write.contents c.loop-done.output.inner in
    let new = g.O.Write.contents c.say_first.new.output.inner in
    pieces_part f old mid new done xs c.loop-done.invariant.1
    (subst (λ l. AppendsPart mid new (flat_map f l)) (take_all (length xs - done) (drop done xs) (search (rules, length-drop))) c.in-Err.ensures.err)
