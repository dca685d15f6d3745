use Rattle.std.proofs.Common.{rules, ◌∙◌, subst, arith}
use Rattle.std.specs.Io.KnownBytes.{Appends}
use Rattle.imap_serve.specs.Reading.{AppendsPart}
use Rattle.imap_serve.proofs.Pieces.{octets_more, octets_part}
use Rattle.imap_serve.proofs.telling.write_pieces.Goals as goal

pub loop-piece-preserved : goal.loop-piece-preserved
loop-piece-preserved g c =
    let old = g.O.Write.contents c.args.output.now.inner in
    let mid = g.O.Write.contents c.loop-piece.output.inner in
    let new = g.O.Write.contents c.write_whole.new.self.inner in
    octets_more old mid new c.loop-piece.piece-index c.args.pieces.now c.piece-item.result (omega arith) c.loop-piece.invariant
    (subst (Appends mid new) (c.as_slice.ensures ∙ c.piece-item.is) c.in_ok-write_whole.ensures.ok)

pub returns-in_err-write_whole-clause-err : goal.returns-in_err-write_whole-clause-err
returns-in_err-write_whole-clause-err g c =
    let old = g.O.Write.contents c.args.output.now.inner in
    let mid = g.O.Write.contents c.loop-piece.output.inner in
    let new = g.O.Write.contents c.write_whole.new.self.inner in
    let part = octets_part old mid new c.loop-piece.piece-index c.args.pieces.now c.piece-item.result (omega arith) c.loop-piece.invariant
    (subst (AppendsPart mid new) (c.as_slice.ensures ∙ c.piece-item.is) c.in_err-write_whole.ensures.err) in
    search (rules, part)
