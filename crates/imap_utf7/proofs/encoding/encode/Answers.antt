use Rattle.std.proofs.Common.{◌∙◌, ap, ◌++◌, [], append-nil}
use Rattle.std.specs.Prelude.{chars}
use Rattle.imap_utf7.specs.Spelling.{encoded, encoded_after}
use Rattle.imap_utf7.proofs.encoding.encode.Goals as goal

pub returns : goal.returns
returns c =
    let all = chars c.args.text.now in
    c.in_ok-end_run.ensures.out ∙ c.in_ok-push_text.ensures []
    ∙ ap (λ l. l ++ encoded_after c.new.result.items (all ++ [])) c.new-2.ensures.bytes
    ∙ ap (λ l. encoded_after l (all ++ [])) c.new.ensures.items ∙ ap encoded (append-nil all)
