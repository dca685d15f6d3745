use Rattle.std.proofs.Common.{◌++◌, List, length, reverse}
use Rattle.imap_message_tables.specs.Joining.{Fit, body_key, head_key, word_key}
use Rattle.imap_message_tables.specs.Taking.{Zips}
use Rattle.imap_message_tables.specs.Up.{AreUp}
use Rattle.imap_message_tables.specs.declared.joined.JoinedMessage.{JoinedMessage}
use Rattle.imap_message_tables.proofs.join.zip_all.Given as goal

abbrev pub invariant-heads : goal.invariant-heads
invariant-heads l = record {
  heads_up : AreUp head_key (reverse l.heads.items);
  bodies_up : AreUp body_key (reverse l.bodies.items);
  words_up : AreUp word_key (reverse l.words.items);
  fits : Fit (reverse l.fn.heads.items) (reverse l.fn.bodies.items) (reverse l.fn.words.items) → Fit (reverse l.heads.items) (reverse l.bodies.items) (reverse l.words.items);
  zips : (ms : List JoinedMessage) → Zips (reverse l.heads.items) (reverse l.bodies.items) (reverse l.words.items) ms
      → Zips (reverse l.fn.heads.items) (reverse l.fn.bodies.items) (reverse l.fn.words.items) (l.messages.items ++ ms);
}

abbrev pub decreases-heads : goal.decreases-heads
decreases-heads l = length l.heads.items
