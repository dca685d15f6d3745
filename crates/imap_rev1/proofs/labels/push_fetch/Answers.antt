use Rattle.std.proofs.Common.{List, decimal, subst}
use Rattle.imap_print.specs.Fetched.{item_words}
use Rattle.imap_print.specs.Pieces.{octets_of}
use Rattle.imap_print.specs.Words.{GoesOn}
use Rattle.imap_print.specs.declared.fetch.FetchedSection.{FetchedSection}
use Rattle.imap_rev1.specs.Labels.{all_asked_words}
use Rattle.imap_rev1.proofs.Asking.{line_closed}
use Rattle.imap_rev1.proofs.labels.push_fetch.Goals as goal

pub returns : goal.returns
returns c =
    let items = c.args.items.now in
    let front = octets_of c.print_fetch_front.new.out in
    let sections = octets_of c.push_all_asked.new.out in
    let begun = c.in_ok-begun.begun in
    let now = c.in_ok-push_all_asked.field-0 in
    line_closed (octets_of c.args.out.now) (decimal c.args.number) front sections (octets_of c.push_octets.new.self) (item_words items) (all_asked_words items.sections items.sections c.args.all.now) begun now
    c.in_ok-begun.ensures
    (subst (λ (bodies : List FetchedSection). GoesOn front begun (all_asked_words bodies bodies c.args.all.now) sections now) c.as_slice.ensures c.in_ok-push_all_asked.ensures)
    c.in_ok-push_octets.ensures
