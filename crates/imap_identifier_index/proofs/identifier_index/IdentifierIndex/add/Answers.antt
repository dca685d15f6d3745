use Rattle.std.proofs.Common.{ℕ, List, ◌||◌, ap, subst, ◌∙◌}
use Rattle.std.specs.Prelude.{bytes_eq}
use Rattle.std.specs.FinMap as fin
use Rattle.imap_names.specs.Name.{root_of}
use Rattle.imap_identifier_index.specs.Sets.{IsAdded}
use Rattle.imap_identifier_index.proofs.Whole.{with_one}
use Rattle.imap_identifier_index.proofs.identifier_index.IdentifierIndex.add.Goals as goal

pub returns-in-Some : goal.returns-in-Some
returns-in-Some c = λ lists absent index.
    with_one c.args.self.now c.enter.new.self lists c.args.name.now c.in-Some.number index c.args.acl.now c.number_for.new.self c.number_for.ensures.sets c.number_for.ensures.whole c.in-Some.ensures.number
    c.enter.ensures.names c.enter.ensures.whole
    (λ t. subst (λ (root : List ℕ). IsAdded (λ text. fin.contains_key c.args.acl.now text || bytes_eq text root) c.in-Some.number c.number_for.new.self.sets c.enter.new.self.sets)
    (c.root.ensures.root ∙ ap root_of c.as_ref.ensures.name) (c.enter.ensures.sets t))
    absent
