use Rattle.std.proofs.Common.{rules, take, drop, length, ◌-◌, sym, subst, length-drop}
use Rattle.std.proofs.Math.Seq.{take-add}
use Rattle.std.proofs.lemmas.List.{take_all}
use Rattle.std.specs.Io.KnownBytes.{Appends}
use Rattle.imap_serve.proofs.Bytes.{appends_more}
use Rattle.imap_serve.proofs.watched.Watched.write_whole.Goals as goal

pub loop-done-preserved : goal.loop-done-preserved
loop-done-preserved g c =
    let done = c.loop-done.done in
    let more = c.in_ok-done.field-0 in
    let bytes = c.args.bytes.now in
    let old = g.O.Write.contents c.args.self.now.inner in
    let mid = g.O.Write.contents c.loop-done.self.inner in
    let new = g.O.Write.contents c.write_some.new.self.inner in
    let wrote : Appends mid new (take more (take (length bytes - done) (drop done bytes))) = c.in_ok-done.ensures.ok.0 in (
      search (rules, length-drop),
      subst (Appends old new) (sym (take-add done more bytes))
          (appends_more old mid new (take done bytes) (take more (drop done bytes)) c.loop-done.invariant.1 (subst (λ xs. Appends mid new (take more xs)) (take_all (length bytes - done) (drop done bytes) (search (rules, length-drop))) wrote)),
    )
