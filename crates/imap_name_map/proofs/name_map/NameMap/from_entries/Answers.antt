use Rattle.std.proofs.Common.{◌∙◌, IsPermutation, ap, sym, subst}
use Rattle.std.specs.FinMap.Entries.{is_sorted}
use Rattle.imap_names.specs.Order.{name_cmp}
use Rattle.imap_names.proofs.OrderLaws.{name_total}
use Rattle.imap_name_map.proofs.Maps.{entries_of}
use Rattle.imap_values.proofs.InOrder.{rising_if_any}
use Rattle.imap_name_map.proofs.name_map.NameMap.from_entries.Goals as goal

pub returns-then-not-are_rising : goal.returns-then-not-are_rising
returns-then-not-are_rising g c = λ m is.
    let tested = c.are_rising.ensures ∙ ap (is_sorted name_cmp) c.deref.ensures.value in
    let rising = rising_if_any name_cmp name_total c.args.entries.items c.sort_entries.new.entries.items m c.sort_entries.ensures.same c.sort_entries.ensures.sorted is in
    absurd (cc (sym c.if-not-are_rising.true ∙ tested ∙ rising))

pub returns : goal.returns
returns g c =
    let tested = c.are_rising.ensures ∙ ap (is_sorted name_cmp) c.deref.ensures.value in
    subst (IsPermutation c.args.entries.items) (sym (entries_of c.sort_entries.new.entries.items (sym tested ∙ c.if-not-are_rising.false))) c.sort_entries.ensures.same
