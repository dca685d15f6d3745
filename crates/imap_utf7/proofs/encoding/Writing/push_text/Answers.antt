use Rattle.std.proofs.Common.{◌∙◌, ap, sym, ◌++◌, ◌∷◌, [], append_assoc, map-id}
use Rattle.std.proofs.lemmas.Iterator.{YieldsList-from_chars}
use Rattle.std.proofs.lemmas.Iterator.Consumers.{YieldsList-end}
use Rattle.imap_utf7.specs.Writing.{all_written}
use Rattle.imap_utf7.proofs.encoding.Writing.push_text.Goals as goal

pub loop-char-preserved : goal.loop-char-preserved
loop-char-preserved c text =
    c.in_ok-push.ensures text ∙ c.loop-char.invariant (c.in-Some.char ∷ text)
    ∙ ap (all_written c.args.self.now) (sym (append_assoc c.loop-char.yielded (c.in-Some.char ∷ []) text))

pub returns : goal.returns
returns c text =
    let end = YieldsList-end (YieldsList-from_chars c.args.text.now c.utf8.text cc) c.loop-char.yielded _ c.loop-char.yielded_by _ _ c.in-None.is c.next.ensures.steps in
    let all = sym (map-id c.loop-char.yielded) ∙ end.0 in
    c.loop-char.invariant text ∙ ap (λ l. all_written c.args.self.now (l ++ text)) all
