use Rattle.std.proofs.Common.{◌+◌, ◌++◌, drop, sym, ap, ◌∙◌, arith}
use Rattle.imap_names.specs.Condensed.{run_tokens}
use Rattle.imap_names.specs.MatchTest.{letters_match}
use Rattle.imap_names.proofs.CondensedLaws.{token_at}
use Rattle.imap_names.proofs.condensed.condense.Goals as goal

pub loop-n-preserved : goal.loop-n-preserved
loop-n-preserved c = record {
  within = omega arith;
  same = c.in_ok-run.ensures (drop (c.loop-n.n + 1) c.args.pattern.now)
      ∙ ap (λ z. letters_match (c.loop-n.condensed.items ++ (run_tokens c.loop-n.run ++ z))) (sym (token_at c.args.pattern.now c.loop-n.n (omega arith)))
      ∙ c.loop-n.invariant.same;
}
