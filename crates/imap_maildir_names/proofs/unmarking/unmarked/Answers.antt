use Rattle.std.proofs.Common.{◌∙◌, ap, ◌++◌, [], append-nil, encode_utf8_all}
use Rattle.std.specs.Prelude.{chars}
use Rattle.imap_maildir_names.specs.Unmarking.{unmarked}
use Rattle.imap_maildir_names.proofs.unmarking.unmarked.Goals as goal

pub returns : goal.returns
returns c =
    let all = chars c.args.path.now in
    c.in_ok-text.ensures ∙ c.in_ok-push_text.ensures []
    ∙ ap (λ l. l ++ encode_utf8_all (unmarked (all ++ []))) c.new.ensures.bytes
    ∙ ap (λ l. encode_utf8_all (unmarked l)) (append-nil all)
