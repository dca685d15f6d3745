use Rattle.std.proofs.Common.{arith}
use Rattle.imap_targets.proofs.Spanned.{lower_uids}
use Rattle.imap_targets.proofs.message_numbers.uid_span.Goals as goal

pub returns : goal.returns
returns c = record {
  order = omega (arith, c.min.ensures);
  within = c.index_after-end.ensures.within;
  less = λ index d lt. lower_uids c.args.low c.args.known.now.list index d (omega (arith, lt, c.min.ensures, c.place_from.ensures.place));
  more = c.index_after-end.ensures.more;
}
