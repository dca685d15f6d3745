use Rattle.std.proofs.Common.{◌∙◌, ◌++◌, ap₂, sym}
use Rattle.std.proofs.lemmas.List.{take-append-drop}
use Rattle.imap_text.proofs.FoldedRuns.{FollowsAscii-block}
use Rattle.imap_text.proofs.runs.after_blocks.Goals as goal

pub loop-block-preserved : goal.loop-block-preserved
loop-block-preserved c =
    let parts = c.in-Some.ensures.cases in
    FollowsAscii-block c.args.octets.now c.loop-block.rest.now c.in-Some.block.now c.in-Some.later.now
    (sym (ap₂ ◌++◌ parts.1 parts.2 ∙ take-append-drop 32 c.loop-block.rest.now)) c.if-not-is_ascii.ensures.cases c.loop-block.invariant
