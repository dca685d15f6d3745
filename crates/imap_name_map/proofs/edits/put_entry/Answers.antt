use Rattle.std.proofs.Common.{subst, ◌∙◌}
use Rattle.std.specs.Prelude.{insert}
use Rattle.imap_name_map.specs.Cuts.{IsPlace, IsGap}
use Rattle.imap_name_map.proofs.Maps.{set_there, put_in_gap, after_insert}
use Rattle.imap_name_map.proofs.edits.put_entry.Goals as goal

pub returns-in-Ok-clause-items : goal.returns-in-Ok-clause-items
returns-in-Ok-clause-items g c =
    set_there c.args.entries.now.items c.as_slice.result.now c.args.name c.in-Ok.place c.as_slice.ensures.value c.args.value _
    (subst (λ k. IsPlace k c.as_slice.result.now c.in-Ok.place) c.as_ref.ensures.name c.in-Ok.ensures) c.index_mut.ensures.value

pub returns-in-Err-clause-items : goal.returns-in-Err-clause-items
returns-in-Err-clause-items g c =
    after_insert c.args.entries.now.items (insert c.args.entries.now.items c.in-Err.place (c.args.name, c.args.value)) _ _ c.insert.ensures.items (c.insert.ensures.succeeds c.requires.room)
    ∙ put_in_gap c.args.entries.now.items c.as_slice.result.now c.args.name c.in-Err.place c.as_slice.ensures.value c.args.value
    (subst (λ k. IsGap k c.as_slice.result.now c.in-Err.place) c.as_ref.ensures.name c.in-Err.ensures)
