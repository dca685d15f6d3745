use Rattle.std.proofs.Common.{◌-◌, ◌<◌, ◌≤◌, Some, None, refl, ap, sym, ◌∙◌, arith, length}
use Rattle.std.specs.FinMap.Entries.{find}
use Rattle.std.specs.Prelude.{slice_set}
use Rattle.std.specs.Vec.{vec_capacity, vec_len}
use Rattle.imap_names.specs.Order.{name_cmp}
use Rattle.imap_name_map.specs.Cuts.{IsPlace}
use Rattle.imap_name_map.proofs.Maps.{kept_put, rows_put, get_listed, set_there, value_there}
use Rattle.imap_name_map.proofs.name_map.NameMap.get_mut_near.Goals as goal

pub invariant_of-self-lent : goal.invariant_of-self-lent
invariant_of-self-lent g c w =
    let old = c.self.inside.entries in
    let within : c.place_near-found.result < length c.as_slice.result.now = omega (arith, c.in-Some.ensures.variant.0 refl, old.ok.0, ap length c.as_slice.ensures.value) in
    kept_put old.items (slice_set old.items c.place_near-found.result (c.in-Some.entry.now.0, w)) c.args.name.now w c.self.invariant
    (set_there old.items c.as_slice.result.now c.args.name.now c.place_near-found.result c.as_slice.ensures.value w c.in-Some.entry.now (c.place_near-found.ensures.there within) c.in-Some.ensures.value)

pub returns-in-Some : goal.returns-in-Some
returns-in-Some g c =
    let old = c.self.inside.entries in
    let within : c.place_near-found.result < length c.as_slice.result.now = omega (arith, c.in-Some.ensures.variant.0 refl, old.ok.0, ap length c.as_slice.ensures.value) in
    let place : IsPlace c.args.name.now c.as_slice.result.now c.place_near-found.result = c.place_near-found.ensures.there within in (
      (
        refl,
        λ w.
            rows_put old.items (slice_set old.items c.place_near-found.result (c.in-Some.entry.now.0, w)) c.args.name.now w (vec_capacity old - vec_len old) c.args.self.now c.self.invariant
            (set_there old.items c.as_slice.result.now c.args.name.now c.place_near-found.result c.as_slice.ensures.value w c.in-Some.entry.now place c.in-Some.ensures.value)
            c.self.view_is,
        refl,
      ),
      record {
        writes_back = tt;
        value = get_listed old.items c.args.name.now (vec_capacity old - vec_len old) c.args.self.now c.self.invariant c.self.view_is (Some c.in-Some.entry.now.1)
            (value_there old.items c.as_slice.result.now c.args.name.now c.place_near-found.result c.as_slice.ensures.value c.in-Some.entry.now place c.in-Some.ensures.value);
      },
    )

pub returns-in-None : goal.returns-in-None
returns-in-None g c =
    let old = c.self.inside.entries in
    let past : length c.as_slice.result.now ≤ c.place_near-found.result = omega (arith, c.in-None.ensures.item.3, ap length c.as_slice.ensures.value) in (
      (refl, λ w. tt, c.self.view_is),
      record {
        writes_back = tt;
        value = get_listed old.items c.args.name.now (vec_capacity old - vec_len old) c.args.self.now c.self.invariant c.self.view_is None
            (sym (c.place_near-found.ensures.absent past) ∙ ap (find name_cmp c.args.name.now) c.as_slice.ensures.value);
      },
    )
