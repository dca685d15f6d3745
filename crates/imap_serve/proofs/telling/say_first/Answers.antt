use Rattle.std.proofs.Common.{rules, ◌≡◌, flat_map, subst, take}
use Rattle.std.specs.List.{concat}
use Rattle.imap_serve.specs.Reading.{AppendsPart}
use Rattle.imap_serve.proofs.Pieces.{part_of_piece}
use Rattle.imap_serve.proofs.telling.say_first.Goals as goal

pub returns-in-Ok-clause-err : goal.returns-in-Ok-clause-err
returns-in-Ok-clause-err g c =
    let f = g.D.Dialect.octets c.args.rule.now in
    let old = g.O.Write.contents c.args.output.now.inner in
    let new = g.O.Write.contents c.write_pieces.new.output.inner in
    let count = c.count_at_once-count.result in
    let xs = c.args.replies.now in
    let text : concat c.as_slice.result.now ≡ flat_map f (take count xs) = search rules in
    part_of_piece f old new count xs (subst (AppendsPart old new) text c.in-Err-write_pieces.ensures.err)
