use Rattle.std.proofs.Common.{refl}
use Rattle.imap_mailbox.proofs.Summing.{fewer_deleted, smaller, left_totals, left_anew}
use Rattle.imap_mailbox.proofs.totals.Totals.lower.Goals as goal

pub overflow_sub-self : goal.overflow_sub-self
overflow_sub-self c = fewer_deleted c.requires.all c.args.left.now c.args.self.now c.args.went c.requires.whole c.requires.gone

pub overflow_sub-self-then-self-lt-MAX_SIZE : goal.overflow_sub-self-then-self-lt-MAX_SIZE
overflow_sub-self-then-self-lt-MAX_SIZE c = smaller c.requires.all c.args.left.now c.args.self.now c.args.went c.requires.whole c.requires.gone c.if-self-lt-MAX_SIZE.true

pub returns-then-self-lt-MAX_SIZE : goal.returns-then-self-lt-MAX_SIZE
returns-then-self-lt-MAX_SIZE c =
    left_totals c.requires.all c.args.left.now c.args.self.now c.args.went _ c.requires.whole c.requires.gone c.if-self-lt-MAX_SIZE.true refl refl

pub returns-else-self-lt-MAX_SIZE : goal.returns-else-self-lt-MAX_SIZE
returns-else-self-lt-MAX_SIZE c =
    left_anew c.requires.all c.args.left.now c.args.self.now c.args.went _ c.requires.whole c.requires.gone refl c.sum_sizes-self.ensures
