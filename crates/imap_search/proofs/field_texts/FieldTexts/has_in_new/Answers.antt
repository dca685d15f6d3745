use Rattle.std.proofs.Common.{◌∙◌, ap, sym, List, ℕ, map}
use Rattle.imap_text.specs.Fields.{field_texts}
use Rattle.imap_text.specs.Folds.{fold}
use Rattle.imap_search.proofs.KeptFolds.{AreFoldsOf, field_found, values_put}
use Rattle.imap_search.proofs.field_texts.FieldTexts.has_in_new.Goals as goal

pub invariant_of-self-2 : goal.invariant_of-self-2
invariant_of-self-2 c =
    let octets = c.self.inside.lookup in
    rw c.in_ok-texts.ensures.lookup (values_put (AreFoldsOf octets) c.insert.result c.in_ok-key.key c.in_ok-texts.texts c.self.inside.named.entries c.insert.new.self.entries
    (c.in_ok-texts.ensures.folds ∙ ap (λ (name : List ℕ). map fold (field_texts name octets)) (sym c.in_ok-key.ensures.items)) c.self.invariant c.insert.ensures.entries c.insert.ensures.err)

pub returns-clause-found : goal.returns-clause-found
returns-clause-found c =
    let name = c.args.name.now in
    let are = c.as_slice.ensures.value ∙ c.in_ok-texts.ensures.folds ∙ ap (λ (octets : List ℕ). map fold (field_texts name octets)) c.self.view_is in
    field_found name c.args.wanted.now c.args.self.now c.as_slice.result.now c.in_ok-found.found are c.in_ok-found.ensures
