use Rattle.std.proofs.Common.{◌+◌, ◌∙◌, ap, sym, drop, map, List, ℕ, ◌∷◌}
use Rattle.std.specs.Char.{to_ascii_lowercase}
use Rattle.std.proofs.lemmas.List.{drop_more}
use Rattle.imap_text.proofs.AskedNames.{AreAsked-more}
use Rattle.imap_text.proofs.field_places.asked_names.Goals as goal

pub loop-name-preserved : goal.loop-name-preserved
loop-name-preserved c =
    let names = c.args.names.now in
    let i = c.loop-name.name-index in
    let later = drop (i + 1) names in
    AreAsked-more c.loop-name.asked.keys c.insert.new.self.keys c.in_ok-lower_case.field-0 c.name-item.result (drop i names) later names
    (drop_more names i c.name-item.result c.loop-name-test.true ∙ ap (λ (name : List ℕ). name ∷ later) (sym c.name-item.is))
    (c.in_ok-lower_case.ensures ∙ ap (map to_ascii_lowercase) c.as_slice.ensures.octets) c.in_ok-insert.ensures.keys c.loop-name.invariant
