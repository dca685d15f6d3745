use Rattle.std.proofs.Common.{rules}
use Rattle.imap_hall.proofs.Counting.{has_push}
use Rattle.imap_hall.proofs.own_counts.OwnCounts.reserve.Goals as goal

pub returns-in_ok-push-clause-ok : goal.returns-in_ok-push-clause-ok
returns-in_ok-push-clause-ok c = has_push c.self.inside.entries.items c.push.new.self.items c.args.number (search rules)
