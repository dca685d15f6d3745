use Rattle.std.proofs.Common.{◌+◌, drop, ap, ◌∙◌, arith}
use Rattle.imap_session.specs.Select.{with_keywords}
use Rattle.imap_session.proofs.Worded.{keywords_step}
use Rattle.imap_session.proofs.select.keywords_of.Goals as goal

pub loop-place-preserved : goal.loop-place-preserved
loop-place-preserved c =
    let at = c.loop-place in
    ap (λ words. with_keywords words (drop (at.place + 1) c.args.rows.now)) c.in_ok-add_keywords.ensures
    ∙ keywords_step c.args.rows.now at.place c.flags.result.now at.keywords (omega (arith, c.loop-place-test.true, c.len-place-end.ensures)) c.flags.ensures
    ∙ at.invariant
