use Rattle.std.proofs.Common.{◌≡◌, IfOk, List, ap, subst, ◌∙◌}
use Rattle.imap_listing.specs.Texts.{Text}
use Rattle.imap_listing.specs.declared.line.Line.{Line}
use Rattle.imap_listing.specs.Lines.{subscribed_lines_of}
use Rattle.imap_listing.specs.Listing.{subscribed_listing}
use Rattle.imap_listing.specs.ViewNames.{listable_names}
use Rattle.imap_listing.proofs.Started.{alike_subscribed}
use Rattle.imap_listing.proofs.listing.list_subscribed.Goals as goal

pub returns : goal.returns
unfolding subscribed_listing
returns c =
    let patterns = c.args.patterns.now in
    let there = listable_names c.args.view.now in
    subst (λ (meant : List Line). IfOk c.subscribed_lines_of.result (λ lines. lines.items ≡ meant))
    (ap (λ (names : List Text). subscribed_lines_of names c.as_slice-2.result.now patterns) c.as_slice.ensures.value
    ∙ alike_subscribed c.in_ok-there.there.items there c.in_ok-there.ensures c.as_slice-2.result.now patterns
    ∙ ap (λ (names : List Text). subscribed_lines_of there names patterns) (c.as_slice-2.ensures.value ∙ c.in_ok-subscribed.ensures))
    c.subscribed_lines_of.ensures
