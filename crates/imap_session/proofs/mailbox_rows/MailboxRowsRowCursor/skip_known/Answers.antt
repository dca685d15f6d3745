use Rattle.std.proofs.Common.{◌+◌, ◌-◌, drop, sym, subst, ◌∙◌, arith}
use Rattle.std.proofs.lemmas.List.{get_or-drop}
use Rattle.imap_session.specs.ByUid.{AgreeByUid}
use Rattle.imap_session.specs.Cursors.{AreFirst, AreLow}
use Rattle.imap_session.proofs.AllThere.{run_there}
use Rattle.imap_session.proofs.mailbox_rows.MailboxRowsRowCursor.skip_known.Goals as goal

pub returns-clause-known : goal.returns-clause-known
returns-clause-known c =
    let known = drop c.args.place c.args.known.now.list in
    let start = c.self.inside.place in
    let rows = c.self.inside.rows.now in
    let len = c.len_there-len.result in
    let first = c.skip_unchanged-next.ensures in
    let run = c.skip_unchanged-next.result - start in
    let low : AreLow c.args.number run (drop start rows) = λ i r lt is. first.low (start + i) r (omega arith) (omega (arith, lt)) (is ∙ get_or-drop start rows i r) in
    let there = c.len_there-len.ensures.there c.args.number (subst (AgreeByUid c.args.number known) (sym c.self.view_is) c.requires.agree) in
    run_there c.args.number len run known c.args.self.now c.requires.agree (subst (AreFirst len known) c.self.view_is there)
    (omega (arith, first.after, first.within)) (subst (AreLow c.args.number run) c.self.view_is low)
