use Rattle.std.proofs.Common.{◌≡◌, drop, ap, subst, ◌∙◌, arith}
use Rattle.imap_session.specs.Walked.{Passes}
use Rattle.imap_session.proofs.Running.{passes_run, passes_to_next}
use Rattle.imap_session.proofs.walk.Walk.pass_some.Goals as goal

pub returns-then-run-gt0 : goal.returns-then-run-gt0
returns-then-run-gt0 g c =
    passes_run c.args.told.now c.args.options.now c.args.up_to c.args.place c.skip_known-run.result c.args.known.now.list (g.C.RowCursor.rest c.args.rows.now)
    (g.C.RowCursor.rest c.skip_known-run.new.self) c.args.self.now (omega (arith, c.if-run-gt0.true)) c.skip_known-run.ensures.known c.skip_known-run.ensures.rest c.requires.agree
    c.requires.there c.requires.number

pub returns : goal.returns
returns g c =
    let none : c.skip_known-run.result ≡ 0 = omega (arith, c.if-run-gt0.false) in
    let rows = g.C.RowCursor.rest c.args.rows.now in
    let left = g.C.RowCursor.rest c.pass.new.rows in
    let same : g.C.RowCursor.rest c.skip_known-run.new.self ≡ rows = c.skip_known-run.ensures.rest ∙ ap (λ n. drop n rows) none in
    passes_to_next c.args.told.now c.args.options.now c.args.up_to c.args.place c.args.known.now.list c.uid.result rows left c.args.self.now c.pass.new.self
    c.requires.there c.uid.ensures c.requires.agree c.requires.number
    (subst (λ from. Passes c.args.told.now c.args.options.now c.args.up_to c.uid.result from left c.args.self.now c.pass.new.self) same c.in_ok-pass.ensures)
