use Rattle.std.proofs.Common.{rules}
use Rattle.std.proofs.lemmas.Result.{on_ok_weaker}
use Rattle.imap_restore.proofs.Grouped.{sorted_by, stable_by, stable_own}
use Rattle.imap_restore.proofs.grouping.group.Goals as goal

pub returns-clause-grouped : goal.returns-clause-grouped
returns-clause-grouped g c = on_ok_weaker c.sort_by.result (λ sorted. sorted_by g.T.Restore.mailbox c.sort_by.new.self.items sorted (λ a r f k. search rules)) c.sort_by.ensures.sorted

pub returns-clause-same : goal.returns-clause-same
returns-clause-same g c = λ id. stable_own g.T.Restore.mailbox id c.args.rows.now.items c.sort_by.new.self.items
    (stable_by g.T.Restore.mailbox c.args.rows.now.items c.sort_by.new.self.items c.sort_by.ensures.stable (λ a r f k. search rules))
