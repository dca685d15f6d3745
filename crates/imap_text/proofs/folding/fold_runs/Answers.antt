use Rattle.std.proofs.Common.{◌∙◌, List, ℕ, ◌++◌, map, ap, sym}
use Rattle.std.specs.Char.{to_ascii_lowercase}
use Rattle.imap_text.proofs.FoldedRuns.{folded-end, folded-more}
use Rattle.imap_text.proofs.folding.fold_runs.Goals as goal

pub loop-rest-preserved : goal.loop-rest-preserved
loop-rest-preserved c =
    let run = c.first_run-run in
    let lower = ap (λ (l : List ℕ). c.loop-rest.folded.items ++ map to_ascii_lowercase l) c.as_bytes.ensures.value in (
      run.ensures.later_utf8,
      folded-more c.loop-rest.folded.items c.push_ascii.new.folded.items c.push_other.new.folded.items c.loop-rest.rest.now run.result.ascii.now run.result.other.now run.result.later.now _
          run.ensures (c.in_ok-push_ascii.ensures ∙ lower) c.in_ok-push_other.ensures c.loop-rest.invariant.1,
    )

pub returns : goal.returns
returns c = folded-end c.loop-rest.folded.items c.loop-rest.rest.now _ (sym c.is_empty.ensures ∙ c.loop-rest-test.false) c.loop-rest.invariant.1
