use Rattle.std.proofs.Common.{◌≡◌, ◌-◌, ◌++◌, length, take, ap, ◌∙◌}
use Rattle.imap_modseq.specs.Numbers.{max_events}
use Rattle.imap_mailbox.specs.Held.{summary_in}
use Rattle.imap_mailbox.specs.Own.{own_at}
use Rattle.imap_batch.specs.Batch.{before_first, dropped_from, own_asked}
use Rattle.imap_batch.proofs.Dropping.{first_taken}
use Rattle.imap_batch.proofs.resolving.dropped_by.Goals as goal

pub returns : goal.returns
returns c =
    let s = summary_in c.args.mailbox.now in
    let b = c.args.batch.now in
    let own = own_at s.own b.user in
    let changes : c.as_slice-changes.result.now ≡ own_asked s.next s.shared b =
    c.as_slice-changes.ensures.value ∙ c.in_ok-changes.ensures ∙ (λ i. own_asked (c.next_uid.ensures.next i) (c.shared_len.ensures.events i) b) in
    c.in_ok-push_dropped.ensures
    ∙ (λ i. c.new-dropped.ensures.items i ++ dropped_from (c.before_first-before.ensures i) (own_at s.own (c.as_str.ensures.text i))
    (take (max_events - length (own_at s.own (c.as_str.ensures.text i)).befores) c.as_slice-changes.result.now))
    ∙ ap (λ l. dropped_from (before_first l) own (take (max_events - length own.befores) l)) changes
    ∙ first_taken own (max_events - length own.befores) (own_asked s.next s.shared b)
