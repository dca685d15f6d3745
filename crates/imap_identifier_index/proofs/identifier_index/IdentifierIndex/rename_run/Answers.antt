use Rattle.std.proofs.Common.{map, refl, sym, subst}
use Rattle.imap_identifier_index.specs.Index.{Index, IsIndexOf}
use Rattle.imap_identifier_index.proofs.Whole.{with_moved}
use Rattle.imap_identifier_index.proofs.identifier_index.IdentifierIndex.rename_run.Goals as goal

pub returns-else-not-move_names : goal.returns-else-not-move_names
returns-else-not-move_names g c = λ lists is_run index.
    let old : Index = record { names = c.self.inside.names.items; sets = c.self.inside.sets.map; is_whole = c.self.inside.is_whole } in
    let new : Index = record old { names = c.move_names.new.names.items } in
    with_moved old new lists c.args.old.now c.args.new.now (map (λ e. e.0) c.args.run.now) is_run (subst (λ (i : Index). IsIndexOf i lists) (sym c.self.view_is) index) refl refl
    (c.move_names.ensures c.if-not-move_names.false)
