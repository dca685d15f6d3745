use Rattle.std.proofs.Common.{ℕ, List, refl, sym, subst}
use Rattle.std.specs.Prelude.{bytes_eq}
use Rattle.imap_identifier_index.specs.Index.{Index, IsIndexOf}
use Rattle.imap_identifier_index.specs.Sets.{IsTaken}
use Rattle.imap_identifier_index.proofs.Entered.{taken_keys}
use Rattle.imap_identifier_index.proofs.Whole.{without_one}
use Rattle.imap_identifier_index.proofs.identifier_index.IdentifierIndex.remove.Goals as goal

pub returns : goal.returns
returns c = λ lists listed index.
    let old : Index = record { names = c.self.inside.names.items; sets = c.self.inside.sets.map; is_whole = c.self.inside.is_whole } in
    let new : Index = record { names = c.take_name.new.names.items; sets = c.take.new.sets.map; is_whole = c.self.inside.is_whole } in
    without_one old new lists c.args.name.now c.args.number (subst (λ (i : Index). IsIndexOf i lists) (sym c.self.view_is) index) c.args.acl.now c.take_from_all.new.sets.map
    (c.take_name.ensures c.if-not-take_name.false)
    (taken_keys c.args.number c.entries.result.now c.args.acl.now old.sets c.take_from_all.new.sets.map c.entries.ensures c.take_from_all.ensures)
    (subst (λ (root : List ℕ). IsTaken (λ text. bytes_eq text root) c.args.number c.take_from_all.new.sets.map new.sets) c.root.ensures.root c.take.ensures)
    refl listed
