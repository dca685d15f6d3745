use Rattle.std.proofs.Common.{◌<◌, length, sym, ap, ◌∙◌, arith}
use Rattle.std.proofs.lemmas.List.{get_or-map, length-map}
use Rattle.imap_mailbox.specs.Rows.{Row}
use Rattle.imap_mailbox.specs.Lent.{row_uids}
use Rattle.imap_session.proofs.Worded.{row_at}
use Rattle.imap_targets.proofs.Named.{place_here}
use Rattle.imap_targets.proofs.row_finder.index_near.Goals as goal

pub returns-then-uid : goal.returns-then-uid
returns-then-uid c =
    let rows = c.args.rows.now in
    let p = c.args.index in
    let rise = c.requires in
    let lt : p < length rows = omega (arith, c.if-index-len.true, c.len.ensures) in
    let stands = row_at rows p lt in
    let is = sym (c.if-uid.true ∙ c.uid.ensures stands.row stands.is) in
    sym (place_here c.args.uid rise.0 rise.1 (row_uids rows) p 0 rise.2 (omega (arith, lt, length-map rows (λ (r : Row). r.uid)))
    (get_or-map (λ (r : Row). r.uid) rows p stands.row 0 lt ∙ ap (λ (r : Row). r.uid) (sym stands.is) ∙ is))
