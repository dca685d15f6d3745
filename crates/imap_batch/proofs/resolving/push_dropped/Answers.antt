use Rattle.std.proofs.Common.{rules, ◌<◌, ◌++◌, ap, ◌∙◌}
use Rattle.imap_modseq.specs.Numbers.{max_events}
use Rattle.imap_mailbox.specs.Held.{summary_in}
use Rattle.imap_mailbox.specs.Own.{own_at}
use Rattle.imap_batch.specs.Batch.{place_list}
use Rattle.imap_batch.proofs.Dropping.{one_dropped}
use Rattle.imap_batch.proofs.resolving.push_dropped.Goals as goal

pub loop-change-preserved : goal.loop-change-preserved
loop-change-preserved c =
    let l = c.loop-change in
    let low : l.at < max_events = search rules in
    one_dropped c.args.before (own_at (summary_in c.args.mailbox.now).own c.args.user.now) c.args.changes.now l.change-index l.at _ l.dropped.items c.push_place.new.places.items _ c.loop-change-test.true low
    (c.in_ok-push_place.ensures ∙ ap (λ o. l.dropped.items ++ place_list o) c.dropped_by.ensures) l.invariant
