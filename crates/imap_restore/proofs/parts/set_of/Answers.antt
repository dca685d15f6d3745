use Rattle.std.proofs.Common.{◌≡◌, ◌∙◌, rules, length, vec_len}
use Rattle.std.specs.BTreeSet as sorted
use Rattle.std.specs.Ordering.{int_cmp}
use Rattle.std.proofs.lemmas.Cmp.{int_cmp_total}
use Rattle.std.proofs.lemmas.Iterator.Adapters.{fact_from_collect, YieldsList-from_vec}
use Rattle.std.proofs.lemmas.Map.Lookups.{exact_signed}
use Rattle.std.proofs.lemmas.Map.Views.{btree_set_contains_from_list}
use Rattle.std.proofs.lemmas.Result.{IfOk-at_ok}
use Rattle.imap_restore.proofs.parts.set_of.Goals as goal

pub returns : goal.returns
returns c =
    let ids = c.args.ids.items in
    let full : vec_len c.args.ids ≡ length ids = search rules in
    let road = YieldsList-from_vec ids c.into_iter.ensures.rest (c.into_iter.ensures.len ∙ full) in
    let got = fact_from_collect (sorted.IsFromIterResult int_cmp) c.collect.result c.collect.ensures.ran road in
    let made = IfOk-at_ok (λ s. sorted.IsFromIterResult int_cmp ids s) c.in_ok-set.was got in
    btree_set_contains_from_list int_cmp_total exact_signed ids c.in_ok-set.set made
