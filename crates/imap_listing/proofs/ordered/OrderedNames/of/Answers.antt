use Rattle.std.proofs.Common.{◌∷◌, ◌++◌, [], take, sym, ap, ◌∙◌}
use Rattle.std.proofs.lemmas.List.{take_more}
use Rattle.imap_listing.proofs.ordered.OrderedNames.of.Goals as goal

pub loop-name-preserved : goal.loop-name-preserved
loop-name-preserved c =
    let names = c.args.names.now in
    let before = take c.loop-name.name-index names in
    c.in_ok-push.ensures.items ∙ ap (λ refs. refs ++ c.as_ref.result ∷ []) c.loop-name.invariant
    ∙ ap (λ name. before ++ name ∷ []) (c.as_ref.ensures ∙ c.name-item.is)
    ∙ sym (take_more names c.loop-name.name-index c.name-item.result c.loop-name-test.true)
