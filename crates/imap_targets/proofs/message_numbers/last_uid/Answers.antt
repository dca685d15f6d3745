use Rattle.std.proofs.Common.{◌∙◌, ◌-◌, ap, arith, get_or}
use Rattle.imap_targets.proofs.Named.{last_is_last}
use Rattle.imap_targets.proofs.message_numbers.last_uid.Goals as goal

pub returns : goal.returns
returns c =
    let known = c.args.known.now.list in
    let last = c.uid.result in
    c.uid.ensures ∙ ap (λ n. get_or known (n - 1) last) c.len-count.ensures.count
    ∙ last_is_last c.args.next_uid known last (omega (arith, c.len-count.ensures.count, c.if-count-eq0.false))
