use Rattle.std.proofs.Common.{◌≡◌, ◌∙◌, sym, subst}
use Rattle.std.specs.Prelude.{bytes_eq}
use Rattle.std.specs.List.Sorted.{IsStrictlySortedBy}
use Rattle.std.proofs.lemmas.List.Filters.{dedup_is}
use Rattle.imap_listing.specs.Texts.{text_cmp, in_order}
use Rattle.imap_listing.proofs.Order.{already_in_order, sorted_once, in_order_rises}
use Rattle.imap_listing.proofs.ordered.OrderedNames.from_names.Goals as goal

are : (c : goal.After-dedup) → c.dedup.new.self.items ≡ in_order c.args.names.items
are c =
    dedup_is bytes_eq _ _ c.dedup.ensures.filtered
    ∙ sorted_once c.args.names.items c.sort.new.self.items c.in_ok-sort.ensures.sorted c.in_ok-sort.ensures.permutation

in_order_already : (c : goal.Then-are_rising) → IsStrictlySortedBy text_cmp c.args.names.items
in_order_already c = subst (IsStrictlySortedBy text_cmp) c.as_slice.ensures.value (c.are_rising.ensures c.if-are_rising.true)

pub invariant_of-result : goal.invariant_of-result
invariant_of-result c = in_order_already c

pub returns-then-are_rising : goal.returns-then-are_rising
returns-then-are_rising c = already_in_order c.args.names.items (in_order_already c)

pub invariant_of-result-2 : goal.invariant_of-result-2
invariant_of-result-2 c = subst (IsStrictlySortedBy text_cmp) (sym (are c)) (in_order_rises c.args.names.items)

pub returns : goal.returns
returns c = are c
