use Rattle.std.proofs.Common.{◌≡◌, ◌+◌, ◌-◌, ◌++◌, length, ap, ◌∙◌, arith}
use Rattle.std.proofs.lemmas.List.{length-append, length-map}
use Rattle.imap_mailbox.specs.Lent.{row_uids}
use Rattle.imap_mailbox.specs.Rows.{Row}
use Rattle.imap_session.specs.Compared.{comparisons, known_after, uids_after, new_rows}
use Rattle.imap_session.specs.Notices.{exists_line}
use Rattle.imap_session.specs.Notices as specs
use Rattle.imap_session.proofs.Telling.{exists_is, lines_joined}
use Rattle.imap_session.proofs.plain_notices.all_lines.Goals as goal

pub returns : goal.returns
returns c =
    let o = c.args.options.now in
    let known = c.args.known.now in
    let rows = c.args.rows.now in
    let new = new_rows known rows in
    let sum = length-append (uids_after o.expunges (comparisons known rows)) (row_uids new) in
    let len = length-map new (λ (r : Row). r.uid) in
    let count : (c.in_ok-fetches.number - 1) + c.new_len.result ≡ length (known_after o.expunges known rows) = omega (arith, c.in_ok-fetches.ensures.number, c.new_len.ensures.count, sum, len) in
    c.in_ok-lines-2.ensures
    ∙ ap (λ l. l ++ c.in_ok-fetches.fetches.items) c.in_ok-lines.ensures
    ∙ lines_joined c.in_ok-fetches.fetches.items c.in_ok-front.ensures (exists_is ((c.in_ok-fetches.number - 1) + c.new_len.result) c.new_len.result new c.new_len.ensures.count ∙ ap (λ n. exists_line n new) count)
    ∙ ap (λ l. specs.expunge_notices o (comparisons known rows) ++ (exists_line (length (known_after o.expunges known rows)) new ++ l)) c.in_ok-fetches.ensures.lines
