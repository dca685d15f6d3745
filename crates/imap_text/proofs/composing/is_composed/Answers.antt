use Rattle.std.proofs.Common.{◌≡◌, ◌∙◌, sym, rules}
use Rattle.unicode_normalization.specs.QuickCheck.{Yes}
use Rattle.unicode_normalization.proofs.IterLemmas.{Spells-chars}
use Rattle.imap_text.proofs.ComposedRuns.{composed-run, composed-end}
use Rattle.imap_text.proofs.composing.is_composed.Goals as goal

pub loop-rest-preserved : goal.loop-rest-preserved
loop-rest-preserved c =
    let run = c.first_run-run in
    let passes : c.is_nfc_quick.result ≡ Yes = search rules in
    let quick = sym (c.is_nfc_quick.ensures.value _ (Spells-chars _ _ run.ensures.other_utf8 c.chars.ensures.rest)) ∙ passes in (
      run.ensures.later_utf8,
      λ left. c.loop-rest.invariant.1 (composed-run c.loop-rest.rest.now run.result.ascii.now run.result.other.now run.result.later.now run.ensures quick left),
    )

pub returns : goal.returns
returns c = λ _. c.loop-rest.invariant.1 (composed-end c.loop-rest.rest.now (sym c.is_empty.ensures ∙ c.loop-rest-test.false))
