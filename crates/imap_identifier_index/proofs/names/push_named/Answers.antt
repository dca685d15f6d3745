use Rattle.std.proofs.Common.{ℕ, ◌++◌, ◌∷◌, [], append_assoc, map, filter_map, take, slice_index, sym, ap, ◌∙◌}
use Rattle.std.proofs.lemmas.List.{take_more}
use Rattle.std.proofs.lemmas.List.Elements.{filter_map-append}
use Rattle.imap_identifier_index.specs.Names.{name_at}
use Rattle.imap_identifier_index.proofs.names.push_named.Goals as goal

pub loop-number-preserved : goal.loop-number-preserved
loop-number-preserved c =
    let f = name_at c.args.names.now in
    let done = take c.loop-number.number-index c.args.numbers.now in
    let n : ℕ = slice_index c.args.numbers.now c.loop-number.number-index in
    let old = map (λ name. name.now) c.args.list.now.items in
    c.in_ok-push_name_of.ensures ∙ ap (λ l. l ++ filter_map f (n ∷ [])) c.loop-number.invariant
    ∙ append_assoc old (filter_map f done) (filter_map f (n ∷ []))
    ∙ ap (λ l. old ++ l) (sym (filter_map-append f done (n ∷ [])) ∙ ap (filter_map f) (sym (take_more c.args.numbers.now c.loop-number.number-index 0 c.loop-number-test.true)))
