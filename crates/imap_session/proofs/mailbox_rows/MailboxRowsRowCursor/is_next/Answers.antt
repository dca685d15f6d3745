use Rattle.std.proofs.Common.{◌≡◌, ◌+◌, ◌<◌, ◌∷◌, drop, length, nat_eq, sym, ap, ◌∙◌, arith}
use Rattle.std.proofs.lemmas.List.{drop_more}
use Rattle.imap_session.specs.Cursors.{is_next}
use Rattle.imap_session.proofs.Worded.{row_at}
use Rattle.imap_session.proofs.mailbox_rows.MailboxRowsRowCursor.is_next.Goals as goal

pub returns-then-self-len : goal.returns-then-self-len
returns-then-self-len c =
    let rows = c.self.inside.rows.now in
    let place = c.self.inside.place in
    let lt : place < length rows = omega (arith, c.if-self-len.true, c.len.ensures) in
    let at = row_at rows place lt in
    let next : drop place rows ≡ at.row ∷ drop (place + 1) rows = drop_more rows place at.row lt ∙ ap (λ r. r ∷ drop (place + 1) rows) (sym at.is) in
    ap (λ n. nat_eq c.args.uid n) (c.uid.ensures at.row at.is) ∙ sym (ap (is_next c.args.uid) next) ∙ ap (is_next c.args.uid) c.self.view_is
