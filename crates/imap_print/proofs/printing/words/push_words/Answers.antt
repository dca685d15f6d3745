use Rattle.std.proofs.Common.{List, ℕ, ◌++◌, ap, ◌∙◌, arith}
use Rattle.std.proofs.lemmas.List.{take_more}
use Rattle.imap_print.proofs.Wording.{goes_on_word, goes_on-append}
use Rattle.imap_print.proofs.printing.words.push_words.Goals as goal

pub loop-word-preserved : goal.loop-word-preserved
loop-word-preserved c =
    let spaced = c.push_space.new.out.items in
    rw (take_more c.args.words.now c.loop-word.word-index c.word-item.result (omega arith))
    (goes_on-append c.loop-word.invariant
    (goes_on_word c.loop-word.out.items c.loop-word.begun _ spaced _ c.in_ok-push_space.ensures
    (c.in_ok-extend_from_slice.ensures.items ∙ ap (λ (t : List ℕ). spaced ++ t) (c.as_slice.ensures.octets ∙ c.word-item.is))))
