use Rattle.std.proofs.Common.{◌≡◌, ◌∙◌, ◌∷◌, [], ap, sym, subst, List, ℕ, map}
use Rattle.std.proofs.lemmas.Result.{IfOk-weaker}
use Rattle.imap_text.specs.Fields.{field_texts}
use Rattle.imap_text.specs.Places.{AreInOrder, places_of, places_named, texts_at}
use Rattle.imap_text.proofs.Bounds.{named_in_order, named_texts}
use Rattle.imap_text.proofs.field_index.FieldIndex.texts.Goals as goal

pub placed_texts-requires : goal.placed_texts-requires
placed_texts-requires c =
    let octets = c.self.inside.octets.now in
    let bounds : List ℕ = c.as_slice-2.result.now in
    let name = c.args.name.now in
    let are : c.of-places.result.now ≡ places_named (name ∷ []) octets =
    c.of-places.ensures ∙ ap (places_of c.self.inside.named) (c.as_slice.ensures.value ∙ c.in_ok-name.ensures) ∙ c.self.invariant.named name in
    subst (AreInOrder octets bounds 0) (sym are) (named_in_order (name ∷ []) octets bounds (c.as_slice-2.ensures.value ∙ c.self.invariant.bounds))

pub returns : goal.returns
returns c =
    let octets = c.self.inside.octets.now in
    let bounds : List ℕ = c.as_slice-2.result.now in
    let name = c.args.name.now in
    let are : c.of-places.result.now ≡ places_named (name ∷ []) octets =
    c.of-places.ensures ∙ ap (places_of c.self.inside.named) (c.as_slice.ensures.value ∙ c.in_ok-name.ensures) ∙ c.self.invariant.named name in
    IfOk-weaker c.placed_texts.result (λ texts. map (λ text. text.now) texts.items ≡ texts_at octets bounds c.of-places.result.now) (λ texts. map (λ text. text.now) texts.items ≡ field_texts name c.args.self.now)
    (λ texts is. is ∙ ap (texts_at octets bounds) are ∙ named_texts name octets bounds (c.as_slice-2.ensures.value ∙ c.self.invariant.bounds) ∙ ap (field_texts name) c.self.view_is)
    c.placed_texts.ensures
