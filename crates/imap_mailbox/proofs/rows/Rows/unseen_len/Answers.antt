use Rattle.std.proofs.Common.{◌≡◌, ◌+◌, ◌∙◌, length, map, ap, sym, subst, arith}
use Rattle.std.specs.Option.{option_copied}
use Rattle.imap_mailbox.specs.Counted.{seen_among, IsCounted}
use Rattle.imap_mailbox.specs.Lent.{own_lent}
use Rattle.imap_mailbox.specs.Status.{unseen_in}
use Rattle.imap_mailbox.specs.Summary.{row_in, uids_in}
use Rattle.imap_mailbox.proofs.SeenCounts.{all_but_seen}
use Rattle.imap_mailbox.proofs.Sizes.{all_unseen}
use Rattle.imap_mailbox.proofs.rows.Rows.unseen_len.Goals as goal

pub returns-in-Some : goal.returns-in-Some
returns-in-Some c =
    let messages = c.self.inside.messages.now.items in
    let list = c.in-Some.own.now.own in
    let counted : c.in-Some.own.now.seen ≡ seen_among list (uids_in messages) = subst (λ own. IsCounted messages (option_copied own)) c.in-Some.is c.self.invariant.1 in
    let all : unseen_in (map (row_in list) messages) + seen_among list (uids_in messages) ≡ length messages = all_but_seen list messages in
    let rows : unseen_in (map (row_in list) messages) ≡ unseen_in c.args.self.now =
    ap (λ own. unseen_in (map (row_in (own_lent own)) messages)) (sym c.in-Some.is) ∙ ap unseen_in c.self.view_is in
    let count : c.len.result ≡ length messages = omega (arith, c.len.ensures, c.self.inside.messages.now.ok) in
    omega (arith, counted, all, rows, count, c.seen_len.ensures)

pub returns-in-None : goal.returns-in-None
returns-in-None c =
    let count : c.len-in-None.result ≡ length c.self.inside.messages.now.items = omega (arith, c.len-in-None.ensures, c.self.inside.messages.now.ok) in
    count ∙ all_unseen c.self.inside.messages.now.items
    ∙ ap (λ own. unseen_in (map (row_in (own_lent own)) c.self.inside.messages.now.items)) (sym c.in-None.is) ∙ ap unseen_in c.self.view_is
