use Rattle.std.proofs.Common.{slice_index_or, arith}
use Rattle.imap_names.specs.Places.{no_masks}
use Rattle.imap_names.proofs.PlaceLaws.{passed_on, passed_all}
use Rattle.imap_names.proofs.places.step_words.Goals as goal

pub loop-word-preserved : goal.loop-word-preserved
loop-word-preserved c =
    passed_on c.args.token c.args.text.now c.args.words.now c.loop-word.words (slice_index_or c.args.masks.now c.loop-word.word no_masks) c.loop-word.word c.loop-word.carry
    c.loop-word.invariant (omega arith) c.step.ensures.octet (c.requires.masks c.loop-word.word (omega arith)) c.step.result c.step.ensures.places

pub returns : goal.returns
returns c = passed_all c.args.token c.args.text.now c.args.words.now c.loop-word.words c.loop-word.word c.loop-word.carry (omega arith) c.loop-word.invariant
