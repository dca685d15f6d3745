use Rattle.std.proofs.Common.{◌∙◌, ap, sym, ◌++◌, map-id}
use Rattle.std.proofs.lemmas.Iterator.{YieldsList-from_chars}
use Rattle.std.proofs.lemmas.Iterator.Consumers.{YieldsList-end}
use Rattle.imap_maildir_names.specs.Unmarking.{all_read}
use Rattle.imap_maildir_names.proofs.unmarking.Unmarking.push_text.Goals as goal

pub returns : goal.returns
returns c text =
    let end = YieldsList-end (YieldsList-from_chars c.args.text.now c.utf8.text cc) c.loop-char.yielded _ c.loop-char.yielded_by _ _ c.in-None.is c.next.ensures.steps in
    let all = sym (map-id c.loop-char.yielded) ∙ end.0 in
    c.loop-char.invariant text ∙ ap (λ l. all_read c.args.self.now (l ++ text)) all
