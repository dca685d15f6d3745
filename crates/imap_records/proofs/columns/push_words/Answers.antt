use Rattle.std.proofs.Common.{◌≡◌, ◌+◌, ◌++◌, [], ◌∷◌, append_assoc, drop, sym, ap, subst, ◌∙◌}
use Rattle.std.specs.Str.{IsAscii}
use Rattle.std.proofs.lemmas.List.{drop_more}
use Rattle.imap_syntax.specs.Atoms.{IsAtom}
use Rattle.imap_records.specs.Columns.{words_behind}
use Rattle.imap_records.proofs.Lists.{part_done}
use Rattle.imap_records.proofs.Texts.{word_added}
use Rattle.imap_records.proofs.columns.push_words.Goals as goal

pub loop-word-preserved : goal.loop-word-preserved
loop-word-preserved c =
    let l = c.loop-word in
    let words = c.args.words.now in
    let item = c.word-item.result in
    let rest = drop (l.word-index + 1) words in
    let front = drop_more words l.word-index item c.loop-word-test.true ∙ ap (λ x. x ∷ rest) (sym c.word-item.is) in
    let made : c.extend_from_slice.new.self.items ≡ (l.octets.items ++ 32 ∷ []) ++ item = c.in_ok-extend_from_slice.ensures.items ∙ (λ i. c.in_ok-push.ensures.items i ++ c.as_slice.ensures.octets i) in
    record {
      words = part_done l.octets.items c.extend_from_slice.new.self.items (32 ∷ item) (words_behind rest) _ (made ∙ append_assoc l.octets.items (32 ∷ []) item)
          (ap (λ xs. l.octets.items ++ words_behind xs) (sym front) ∙ l.invariant.words);
      ascii = λ h. subst IsAscii (sym made) (word_added l.octets.items item (l.invariant.ascii h) (subst IsAtom c.as_slice.ensures.octets c.as_slice.ensures.valid));
    }
