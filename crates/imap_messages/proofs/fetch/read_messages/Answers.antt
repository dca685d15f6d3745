use Rattle.std.proofs.Common.{sym, ◌∙◌}
use Rattle.imap_targets.specs.Spans.{named_in}
use Rattle.imap_messages.proofs.UpToDate.{nothing_read}
use Rattle.imap_messages.proofs.fetch.read_messages.Goals as goal

pub returns-then-is_up_to_date-clause-read : goal.returns-then-is_up_to_date-clause-read
returns-then-is_up_to_date-clause-read c =
    nothing_read c.args.since c.args.wanted.now c.args.sets c.args.mailbox.now (named_in c.args.messages.now c.args.known.now.list) c.new-reading.result
    (sym c.is_up_to_date.ensures ∙ c.if-is_up_to_date.true) c.requires.numbers c.new-reading.ensures.lines c.new-reading.ensures.marks c.new-reading.ensures.told
