use Rattle.std.proofs.Common.{◌∙◌, ap, sym, List, ℕ, map}
use Rattle.std.proofs.lemmas.Result.{IfOk-weaker}
use Rattle.std.specs.Option.{option_copied}
use Rattle.imap_text.specs.Fields.{field_texts}
use Rattle.imap_text.specs.Folds.{fold}
use Rattle.imap_search.proofs.KeptFolds.{AreFoldsOf, field_found, kept_so}
use Rattle.imap_search.proofs.field_texts.FieldTexts.has.Goals as goal

pub returns-in-Some-clause-found : goal.returns-in-Some-clause-found
returns-in-Some-clause-found c =
    let name = c.args.name.now in
    let there = sym c.get.ensures.value ∙ ap option_copied c.in-Some.is in
    let kept = kept_so (AreFoldsOf c.self.inside.lookup) name _ c.in-Some.texts.now c.self.invariant there in
    let are = c.as_slice.ensures.value ∙ kept ∙ ap (λ (octets : List ℕ). map fold (field_texts name octets)) c.self.view_is in
    IfOk-weaker c.any_has.result _ _ (λ found e. field_found name c.args.wanted.now c.args.self.now c.as_slice.result.now found are e) c.any_has.ensures
