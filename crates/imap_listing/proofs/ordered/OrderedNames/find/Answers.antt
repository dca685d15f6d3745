use Rattle.std.proofs.Common.{◌≡◌, ap, ◌∙◌, sym, subst, List}
use Rattle.std.specs.List.Sorted.{IsStrictlySortedBy}
use Rattle.std.specs.Prelude.{is_some}
use Rattle.imap_listing.specs.Texts.{Text, text_cmp, has}
use Rattle.imap_listing.proofs.Order.{search_tells, rises_sorted}
use Rattle.imap_listing.proofs.ordered.OrderedNames.find.Goals as goal

pub returns : goal.returns
returns c =
    let names : List Text = c.deref.result.now in
    let same : names ≡ c.args.self.now = c.deref.ensures.value ∙ c.self.view_is in
    search_tells names c.args.name.now c.binary_search.result (is_some c.ok.result)
    (rises_sorted names (subst (IsStrictlySortedBy text_cmp) (sym c.deref.ensures.value) c.self.invariant))
    c.ok.ensures.variant c.binary_search.ensures.bound c.binary_search.ensures.position
    ∙ ap (λ z. has z c.args.name.now) same
