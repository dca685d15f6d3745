use Rattle.std.proofs.Common.{◌++◌, filter, ap, ◌∙◌}
use Rattle.std.proofs.lemmas.Result.{IfOk-weaker}
use Rattle.imap_listing.specs.Matching.{is_matched, is_matched_level}
use Rattle.imap_listing.proofs.Listed.{made_lines}
use Rattle.imap_listing.proofs.listing.lines_of.Goals as goal

pub returns : goal.returns
returns c =
    let marks = c.in_ok-marks.marks in
    let patterns = c.args.patterns.now in
    let p = is_matched patterns in
    let q = is_matched_level patterns in
    IfOk-weaker c.lines.result _ _ (λ lines e.
    made_lines c.args.there.now c.args.subscribed.now patterns marks.there marks.above marks.subscribed
    c.in_ok-marks.ensures.there c.in_ok-marks.ensures.above c.in_ok-marks.ensures.subscribed
    c.push_matched.new.listed.items c.push_matched_levels.new.listed.items c.as_slice-3.result.now lines.items
    (c.in_ok-push_matched.ensures ∙ (λ i. c.new-listed.ensures.items i ++ filter p (c.as_slice.ensures i)))
    (c.in_ok-push_matched_levels.ensures ∙ ap (λ z. c.push_matched.new.listed.items ++ filter q z) c.as_slice-2.ensures)
    (c.as_slice-3.ensures ∙ c.in_ok-listed.ensures)
    e) c.lines.ensures
