use Rattle.std.proofs.Common.{ap, length, ◌∙◌, subst, ◌≤◌, arith}
use Rattle.imap_batch.specs.Batch.{added_seen_count, mark_seen_count}
use Rattle.imap_mailbox.specs.Held.{summary_in}
use Rattle.imap_mailbox.specs.Own.{own_at}
use Rattle.imap_modseq.specs.Numbers.{max_events}
use Rattle.imap_upcoming.proofs.Counted.{own_counted}
use Rattle.imap_upcoming.proofs.counts.own_after.Goals as goal

pub returns : goal.returns
returns c =
    let s = summary_in c.args.mailbox.now in
    let own = c.own_len-own.ensures.events ∙ ap (λ u. length (own_at s.own u).befores) c.as_str.ensures.text in
    let counted = own_counted c.args.write.now s c.requires (subst (λ n. n ≤ max_events) own c.own_len-own.ensures.few) in
    let added = c.added_seen_count-added.ensures.count ∙ ap added_seen_count c.as_slice.ensures in
    let marked = c.mark_seen_count-marked.ensures.count ∙ ap mark_seen_count c.as_slice-2.ensures in
    record {
      own = omega (arith, counted, own, added, marked, c.saturating_add.ensures, c.min.ensures, c.own_len-own.ensures.few);
      few = omega (arith, c.min.ensures);
    }
