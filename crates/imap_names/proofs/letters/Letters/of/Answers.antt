use Rattle.std.proofs.Common.{◌+◌, ◌-◌, length, sym, ap, ◌∙◌}
use Rattle.imap_names.specs.Letters.{lettered, inbox_front}
use Rattle.imap_names.proofs.LetterLaws.{letters_are}
use Rattle.imap_names.proofs.letters.Letters.of.Goals as goal

pub returns : goal.returns
returns c =
    let path = c.path_in-path.ensures.path in
    (λ i. lettered (length c.args.text.now - length c.path_in-path.result.now) (length c.args.text.now - length c.path_in-path.result.now + c.inbox_len.ensures.len i) (c.as_bytes.ensures.value i))
    ∙ ap (λ z. lettered (length c.args.text.now - length z) (length c.args.text.now - length z + length (inbox_front z)) c.args.text.now) path
    ∙ sym (letters_are c.args.text.now)
