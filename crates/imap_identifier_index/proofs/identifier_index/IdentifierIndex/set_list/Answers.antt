use Rattle.std.proofs.Common.{◌≡◌, ℕ, List, Some, ◌||◌, sym, ap, subst, ◌∙◌}
use Rattle.std.specs.Prelude.{bytes_eq}
use Rattle.std.specs.FinMap as fin
use Rattle.imap_identifier_index.specs.Index.{Index, IsIndexOf}
use Rattle.imap_identifier_index.specs.Names.{name_at}
use Rattle.imap_identifier_index.specs.Sets.{IsAdded, IsTaken}
use Rattle.imap_identifier_index.proofs.Entered.{taken_keys}
use Rattle.imap_identifier_index.proofs.Whole.{with_other}
use Rattle.imap_identifier_index.proofs.identifier_index.IdentifierIndex.set_list.Goals as goal

pub returns : goal.returns
returns c = λ lists listed index.
    let old : Index = record { names = c.self.inside.names.items; sets = c.self.inside.sets.map; is_whole = c.self.inside.is_whole } in
    let here : name_at old.names c.args.number ≡ Some c.args.name.now = ap (λ l. name_at l c.args.number) (sym c.as_slice.ensures.value) ∙ c.has_name.ensures.0 c.if-not-has_name.false in
    with_other old c.enter.new.self lists c.args.name.now c.args.number (subst (λ (i : Index). IsIndexOf i lists) (sym c.self.view_is) index) c.args.old.now c.args.new.now
    c.take_from_all.new.sets.map c.take.new.sets.map here c.enter.ensures.names
    (taken_keys c.args.number c.entries.result.now c.args.old.now old.sets c.take_from_all.new.sets.map c.entries.ensures c.take_from_all.ensures)
    (subst (λ (root : List ℕ). IsTaken (λ text. bytes_eq text root) c.args.number c.take_from_all.new.sets.map c.take.new.sets.map) c.root.ensures.root c.take.ensures)
    c.enter.ensures.whole
    (λ t. subst (λ (root : List ℕ). IsAdded (λ text. fin.contains_key c.args.new.now text || bytes_eq text root) c.args.number c.take.new.sets.map c.enter.new.self.sets) c.root-2.ensures.root (c.enter.ensures.sets t))
    listed
