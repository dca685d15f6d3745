use Rattle.imap_messages.specs.Changed.{AreSkipped}
use Rattle.imap_messages.proofs.Named.{IsSoFar}
use Rattle.imap_messages.proofs.fetch.read_named.Given as goal

abbrev pub invariant-loop-index : goal.invariant-loop-index
invariant-loop-index l = IsSoFar l.by_uid l.since l.wanted l.sets l.mailbox l.messages.numbering l.messages.last l.messages.ranges.now l.known.list l.index l.reading
    × AreSkipped l.skips l.since l.mailbox.rows l.known.list l.index l.next
