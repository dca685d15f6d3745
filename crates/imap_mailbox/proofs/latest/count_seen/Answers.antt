use Rattle.std.proofs.Common.{◌≡◌, ◌&&◌, ◌∙◌, rules}
use Rattle.std.specs.Prelude.{count_by}
use Rattle.imap_mailbox.specs.declared.kept_change.KeptChange.{KeptChange}
use Rattle.imap_mailbox.specs.Rows.{is_among}
use Rattle.imap_mailbox.specs.Summary.{uids_in}
use Rattle.imap_mailbox.proofs.SeenCounts.{seen_by_table}
use Rattle.imap_mailbox.proofs.latest.count_seen.Goals as goal

pub returns-clause-count : goal.returns-clause-count
returns-clause-count c =
    let made : c.count.result ≡ count_by (λ (l : KeptChange). l.seen && is_among l.uid (uids_in c.args.messages.now)) c.args.table.now = search rules in
    made ∙ seen_by_table c.requires.table.1 c.requires.messages.0 c.requires.messages.1 c.args.table.now (uids_in c.args.messages.now) c.requires.table.0 c.requires.table.2 c.requires.messages.2
