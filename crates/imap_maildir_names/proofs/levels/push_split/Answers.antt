use Rattle.std.proofs.Common.{◌∙◌, ap, sym, ◌++◌, [], append-nil, map-id, encode_utf8_all, string_bytes}
use Rattle.std.proofs.lemmas.Iterator.{YieldsList-from_chars}
use Rattle.std.proofs.lemmas.Iterator.Consumers.{YieldsList-end}
use Rattle.imap_maildir_names.specs.Levels.{pieces}
use Rattle.imap_maildir_names.proofs.levels.push_split.Goals as goal

pub returns : goal.returns
returns c =
    let end = YieldsList-end (YieldsList-from_chars c.args.level.now c.utf8.level cc) c.loop-char.yielded _ c.loop-char.yielded_by _ _ c.in-None.is c.next.ensures.steps in
    let all = sym (map-id c.loop-char.yielded) ∙ end.0 in
    sym (append-nil (string_bytes c.loop-char.path)) ∙ c.loop-char.invariant []
    ∙ ap (λ l. string_bytes c.args.path.now ++ encode_utf8_all (pieces 0 l)) (append-nil c.loop-char.yielded ∙ all)
