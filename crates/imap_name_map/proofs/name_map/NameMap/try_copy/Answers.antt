use Rattle.std.proofs.Common.{◌≡◌, ◌-◌, ap, ◌∙◌, length, arith}
use Rattle.std.specs.FinMap as fin
use Rattle.std.specs.FinMap.Entries.{is_sorted}
use Rattle.std.specs.Prelude.{vec_len}
use Rattle.std.specs.Vec.{vec_capacity}
use Rattle.imap_names.specs.Order.{name_cmp}
use Rattle.imap_name_map.proofs.name_map.NameMap.try_copy.Goals as goal

pub invariant_of-result : goal.invariant_of-result
invariant_of-result g c = ap (is_sorted name_cmp) c.in_ok-entries.ensures.items ∙ c.self.invariant

pub returns : goal.returns
returns g c =
    let old = c.self.inside.entries in
    let new = c.in_ok-entries.entries in
    let room : vec_capacity new - vec_len new ≡ vec_capacity old - vec_len old =
    omega (arith, old.ok.0, old.ok.1, new.ok.0, new.ok.1, ap length c.in_ok-entries.ensures.items, c.in_ok-entries.ensures.capacity) in
    (λ i. record { map = fin.from_sorted (c.in_ok-entries.ensures.items i); spare = room i }) ∙ c.self.view_is
