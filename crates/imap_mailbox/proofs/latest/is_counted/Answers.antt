use Rattle.std.proofs.Common.{◌&&◌, ◌∙◌, is_some, sym, ap}
use Rattle.imap_mailbox.specs.Rows.{is_among}
use Rattle.imap_mailbox.specs.Summary.{uids_in}
use Rattle.imap_mailbox.proofs.Finding.{place_tells}
use Rattle.imap_mailbox.proofs.latest.is_counted.Goals as goal

pub returns-then-last : goal.returns-then-last
returns-then-last c =
    let among = is_among c.args.last.now.uid (uids_in c.args.messages.now) in
    c.is_some.ensures ∙ ap is_some c.find_message.ensures ∙ place_tells c.args.last.now.uid (uids_in c.args.messages.now)
    ∙ ap (λ b. b && among) (sym c.if-last.true)
