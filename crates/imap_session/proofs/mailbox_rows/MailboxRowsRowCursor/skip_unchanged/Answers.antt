use Rattle.std.proofs.Common.{not, sym, ap, ◌∙◌}
use Rattle.imap_session.specs.Cursors.{is_next}
use Rattle.imap_session.proofs.Unchanged.{not_next, next_tells, place_there, first_at}
use Rattle.imap_session.proofs.mailbox_rows.MailboxRowsRowCursor.skip_unchanged.Goals as goal

pub returns-then-not-is_next-clause-unchanged : goal.returns-then-not-is_next-clause-unchanged
returns-then-not-is_next-clause-unchanged c =
    sym (not_next c.args.uid c.args.number c.args.self.now (sym c.is_next.ensures ∙ c.if-not-is_next.true))

pub is_above-requires : goal.is_above-requires
is_above-requires c =
    let p = c.self.inside in
    place_there c.args.uid p.rows.now p.place (ap (is_next c.args.uid) c.self.view_is ∙ sym c.is_next.ensures ∙ c.if-not-is_next.false)

pub returns-then-is_above-clause-unchanged : goal.returns-then-is_above-clause-unchanged
returns-then-is_above-clause-unchanged c =
    let p = c.self.inside in
    let tells = next_tells c.args.uid c.args.number c.args.self.now c.is_above.result (sym c.is_next.ensures ∙ c.if-not-is_next.false)
    (λ r later is. c.is_above.ensures r (first_at p.rows.now p.place r later (c.self.view_is ∙ is))) in
    sym (tells ∙ ap not c.if-is_above.true)

pub returns-clause-unchanged : goal.returns-clause-unchanged
returns-clause-unchanged c =
    let p = c.self.inside in
    let tells = next_tells c.args.uid c.args.number c.args.self.now c.is_above.result (sym c.is_next.ensures ∙ c.if-not-is_next.false)
    (λ r later is. c.is_above.ensures r (first_at p.rows.now p.place r later (c.self.view_is ∙ is))) in
    sym (tells ∙ ap not c.if-is_above.false)
