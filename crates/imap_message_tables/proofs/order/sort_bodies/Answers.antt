use Rattle.std.proofs.Common.{rules}
use Rattle.imap_message_tables.specs.Joining.{body_key}
use Rattle.imap_message_tables.proofs.Ordered.{sorted_by}
use Rattle.imap_message_tables.proofs.order.sort_bodies.Goals as goal

pub returns-clause-sorted : goal.returns-clause-sorted
returns-clause-sorted c = sorted_by body_key c.sort_unstable_by.new.self.items c.sort_unstable_by.ensures.sorted (λ a r f k. search rules)
