use Rattle.std.proofs.Common.{◌++◌, filter, ◌∙◌}
use Rattle.std.proofs.lemmas.Result.{IfOk-weaker}
use Rattle.imap_listing.specs.Matching.{is_matched}
use Rattle.imap_listing.proofs.Listed.{made_subscribed}
use Rattle.imap_listing.proofs.listing.subscribed_lines_of.Goals as goal

pub returns : goal.returns
returns c =
    let marks = c.in_ok-marks.marks in
    let patterns = c.args.patterns.now in
    IfOk-weaker c.lines.result _ _ (λ lines e.
    made_subscribed c.args.there.now c.args.subscribed.now patterns marks.there marks.above marks.subscribed
    c.in_ok-marks.ensures.there c.in_ok-marks.ensures.above c.in_ok-marks.ensures.subscribed
    c.as_slice-2.result.now lines.items
    (c.as_slice-2.ensures.value ∙ c.in_ok-push_matched.ensures ∙ (λ i. c.new-listed.ensures.items i ++ filter (is_matched patterns) (c.as_slice.ensures i)))
    e) c.lines.ensures
