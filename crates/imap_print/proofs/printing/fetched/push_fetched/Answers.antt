use Rattle.std.proofs.Common.{[], ◌∷◌, ◌++◌}
use Rattle.std.specs.List.{concat}
use Rattle.imap_print.specs.Fetched.{fetched_words}
use Rattle.imap_print.specs.Pieces.{octets_of}
use Rattle.imap_print.proofs.Piecewise.{more_text}
use Rattle.imap_print.proofs.Wording.{enclosed}
use Rattle.imap_print.proofs.printing.fetched.push_fetched.Goals as goal

pub returns : goal.returns
returns c =
    let out = c.args.out.now in
    let words = c.push_fetched_words.new.out in
    enclosed (octets_of out) (concat out.done.items ++ c.push.new.self.items) (octets_of words) (fetched_words c.args.items.now) c.in_ok-push_fetched_words.field-0 _
    (more_text out.done.items out.text.items c.push.new.self.items (40 ∷ []) c.in_ok-push.ensures.items)
    c.in_ok-push_fetched_words.ensures
    (more_text words.done.items words.text.items c.push-2.new.self.items (41 ∷ []) c.in_ok-push-2.ensures.items)
