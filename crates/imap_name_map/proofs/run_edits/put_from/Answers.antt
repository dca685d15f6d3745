use Rattle.std.proofs.Common.{◌+◌, ◌++◌, drop, take, ap, subst, ◌∙◌}
use Rattle.std.specs.Prelude.{insert}
use Rattle.imap_name_map.specs.Cuts.{IsPlace, IsGap}
use Rattle.imap_name_map.proofs.Maps.{set_there, put_in_gap, after_insert}
use Rattle.imap_name_map.proofs.RunInserts.{set_later, insert_later, get_later}
use Rattle.imap_name_map.proofs.run_edits.put_from.Goals as goal

pub returns-in-Ok-clause-items : goal.returns-in-Ok-clause-items
returns-in-Ok-clause-items g c =
    let es = c.args.entries.now.items in
    let start = c.args.start in
    set_later es start c.in-Ok.place (c.index_mut.result.now.0, c.args.value) c.requires.within
    ∙ ap (λ l. take start es ++ l)
    (set_there (drop start es) (drop start c.as_slice.result.now) c.args.name c.in-Ok.place (ap (drop start) c.as_slice.ensures.value) c.args.value c.index_mut.result.now
    (subst (λ k. IsPlace k (drop start c.as_slice.result.now) c.in-Ok.place) c.as_ref.ensures.name c.in-Ok.ensures)
    (c.index_mut.ensures.value ∙ get_later es start c.in-Ok.place c.index_mut.result.now c.requires.within))

pub returns-in-Err-clause-items : goal.returns-in-Err-clause-items
returns-in-Err-clause-items g c =
    let es = c.args.entries.now.items in
    let start = c.args.start in
    after_insert es (insert es (start + c.in-Err.place) (c.args.name, c.args.value)) _ _ c.insert.ensures.items (c.insert.ensures.succeeds c.requires.room)
    ∙ insert_later es start c.in-Err.place (c.args.name, c.args.value) c.requires.within
    ∙ ap (λ l. take start es ++ l)
    (put_in_gap (drop start es) (drop start c.as_slice.result.now) c.args.name c.in-Err.place (ap (drop start) c.as_slice.ensures.value) c.args.value
    (subst (λ k. IsGap k (drop start c.as_slice.result.now) c.in-Err.place) c.as_ref.ensures.name c.in-Err.ensures))
