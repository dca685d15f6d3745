use Rattle.std.proofs.Common.{◌≡◌, rules, is_lt}
use Rattle.std.proofs.lemmas.Fn.{always_returns_same}
use Rattle.std.proofs.lemmas.List.Sorted.{ranks_by}
use Rattle.imap_names.specs.Order.{name_cmp}
use Rattle.imap_names.proofs.OrderLaws.{name_total}
use Rattle.imap_name_map.proofs.sorting.sort_entries.Goals as goal

pub returns-clause-sorted : goal.returns-clause-sorted
returns-clause-sorted g c =
    c.sort_unstable_by.ensures.sorted (λ x y. is_lt (name_cmp x.0 y.0)) (ranks_by name_total (λ e. e.0))
    (always_returns_same _ (λ a r. is_lt r ≡ is_lt (name_cmp (a.0.now).0 (a.1.0.now).0)) _ (λ a r q k. search rules))
