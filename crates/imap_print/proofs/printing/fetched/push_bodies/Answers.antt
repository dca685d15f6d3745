use Rattle.std.proofs.Common.{◌++◌, ap, ◌∙◌, arith}
use Rattle.std.specs.List.{concat}
use Rattle.std.proofs.lemmas.List.{map_more}
use Rattle.imap_print.specs.declared.fetch.FetchedSection.{FetchedSection}
use Rattle.imap_print.specs.Fetched.{body_text}
use Rattle.imap_print.specs.Pieces.{octets_of}
use Rattle.imap_print.specs.Words.{space}
use Rattle.imap_print.proofs.Piecewise.{more_text}
use Rattle.imap_print.proofs.Wording.{goes_on_word, goes_on-append}
use Rattle.imap_print.proofs.printing.fetched.push_bodies.Goals as goal

pub loop-body-preserved : goal.loop-body-preserved
loop-body-preserved c =
    let out = c.loop-body.out in
    let text = c.push_space.new.out.items in
    let spaced = concat out.done.items ++ text in
    rw (map_more body_text c.args.bodies.now c.loop-body.body-index c.body-item.result (omega arith))
    (goes_on-append c.loop-body.invariant
    (goes_on_word (octets_of out) c.loop-body.begun _ spaced _ (more_text out.done.items out.text.items text (space c.loop-body.begun) c.in_ok-push_space.ensures)
    (c.in_ok-print_section.ensures ∙ ap (λ (body : FetchedSection). spaced ++ body_text body) c.body-item.is)))
