use Rattle.std.proofs.Common.{◌+◌, ◌-◌, ◌≤◌, length, sym, ◌∙◌, arith}
use Rattle.std.proofs.lemmas.Bool.{eqb-true}
use Rattle.imap_session.proofs.AllThere.{last_there}
use Rattle.imap_session.proofs.mailbox_rows.are_there.Goals as goal

pub returns-then-last-uid-clause-there : goal.returns-then-last-uid-clause-there
returns-then-last-uid-clause-there c holds number agree =
    let within : c.args.start + c.args.len ≤ length c.args.rows.now = omega (arith, c.requires.some, c.if-saturating_sub-len.false, c.saturating_sub.ensures, c.len.ensures) in
    last_there number c.args.place c.args.start c.args.len c.args.known.now.list c.args.rows.now c.uid-last.result agree c.requires.some c.requires.few within c.uid-last.ensures
    (λ r at. c.if-last-uid.true ∙ c.uid.ensures r at) (sym (eqb-true c.place_from.result (c.args.start + c.args.len - 1) holds) ∙ c.place_from.ensures.place)
