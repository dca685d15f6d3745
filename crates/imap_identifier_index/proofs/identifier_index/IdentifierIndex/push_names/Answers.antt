use Rattle.std.proofs.Common.{◌≡◌, ◌++◌, Some, None, map, filter_map, sym, ap, subst, ◌∙◌}
use Rattle.std.specs.Option.{option_copied}
use Rattle.std.specs.FinMap as fin
use Rattle.imap_identifier_index.specs.Index.{AreFound, Index}
use Rattle.imap_identifier_index.specs.Names.{name_at}
use Rattle.imap_identifier_index.specs.Sets.{is_in, is_numbered}
use Rattle.imap_identifier_index.proofs.Telling.{on_ok, told, told_none}
use Rattle.imap_identifier_index.proofs.identifier_index.IdentifierIndex.push_names.Goals as goal

pub returns-in-Some : goal.returns-in-Some
returns-in-Some c = λ lists index.
    let is : Index = record { names = c.self.inside.names.items; sets = c.self.inside.sets.map; is_whole = c.self.inside.is_whole } in
    let found : AreFound (name_at is.names) (is_in is.sets) lists =
    subst (λ (i : Index). AreFound (name_at i.names) (is_in i.sets) lists) (sym c.self.view_is) (index c.requires) in
    let there : fin.get is.sets c.args.text.now ≡ Some c.in-Some.numbers.now = sym c.get.ensures ∙ ap option_copied c.in-Some.is in
    on_ok c.push_named.result c.push_named.ensures (λ appended.
    told (name_at is.names) (is_in is.sets) lists c.args.text.now found c.in-Some.numbers.now (λ k. ap (is_numbered k) there) _ _
    (appended ∙ (λ i. map (λ name. name.now) c.args.names.now.items ++ filter_map (name_at (c.as_slice.ensures.value i)) (c.as_slice-in-Some.ensures i))))

pub returns-in-None : goal.returns-in-None
returns-in-None c = λ lists index.
    let is : Index = record { names = c.self.inside.names.items; sets = c.self.inside.sets.map; is_whole = c.self.inside.is_whole } in
    let found : AreFound (name_at is.names) (is_in is.sets) lists =
    subst (λ (i : Index). AreFound (name_at i.names) (is_in i.sets) lists) (sym c.self.view_is) (index c.requires) in
    let absent : fin.get is.sets c.args.text.now ≡ None = sym c.get.ensures ∙ ap option_copied c.in-None.is in
    told_none (name_at is.names) (is_in is.sets) lists c.args.text.now found (λ k. ap (is_numbered k) absent) _
