use Rattle.std.proofs.Common.{IsUtf8, subst, ◌∙◌}
use Rattle.imap_stored_values.proofs.Words.{cut_atom, cut_end, cut_last_atom, cut_next, same_fault, utf8_after}
use Rattle.imap_stored_values.proofs.values.words_in.Goals as goal

pub returns-in-Err-clause-bad : goal.returns-in-Err-clause-bad
returns-in-Err-clause-bad c is others filled valid text =
    c.add_word.ensures.bad (c.in-Err.is ∙ same_fault c.in-Err.error is)
    (cut_atom others c.loop-word.words c.loop-word.rest.now c.in-Some.word.now c.in-Some.more.now valid c.in-Some.ensures.words (c.loop-word.invariant.cut others filled valid text))

pub loop-word-preserved : goal.loop-word-preserved
loop-word-preserved c = record {
  cut = λ others filled valid text.
      cut_next others c.loop-word.words c.add_word.new.words c.loop-word.rest.now c.in-Some.word.now c.in-Some.more.now valid c.in-Some.ensures.words c.in_default-add_word.ensures.ok (c.loop-word.invariant.cut others filled valid text);
  utf8 = utf8_after c.in-Some.word.now c.in-Some.more.now (subst IsUtf8 c.in-Some.ensures.cut c.loop-word.invariant.utf8);
}

pub returns-in-Err-add_word-clause-bad : goal.returns-in-Err-add_word-clause-bad
returns-in-Err-add_word-clause-bad c is others filled valid text =
    c.add_word-2.ensures.bad (c.in-Err-add_word.is ∙ same_fault c.in-Err-add_word.error is)
    (cut_last_atom others c.loop-word.words c.loop-word.rest.now valid c.in_default.ensures.words (c.loop-word.invariant.cut others filled valid text))

pub returns-in-Ok-clause-ok : goal.returns-in-Ok-clause-ok
returns-in-Ok-clause-ok c others filled valid text =
    cut_end others c.loop-word.words c.add_word-2.new.words c.loop-word.rest.now valid c.in_default.ensures.words c.in-Ok.ensures.ok (c.loop-word.invariant.cut others filled valid text)
