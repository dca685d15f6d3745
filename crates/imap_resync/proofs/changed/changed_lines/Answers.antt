use Rattle.std.proofs.Common.{sym, ◌∙◌}
use Rattle.imap_resync.proofs.Changing.{none_changed}
use Rattle.imap_resync.proofs.changed.changed_lines.Goals as goal

pub returns-then-mailbox-since-clause-lines : goal.returns-then-mailbox-since-clause-lines
returns-then-mailbox-since-clause-lines c =
    c.new.ensures.items
    ∙ sym (none_changed c.args.since c.args.uids.now c.args.mailbox.now.highest 1 c.args.mailbox.now.rows c.if-mailbox-since.true c.requires.numbers)
