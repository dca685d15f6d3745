use Rattle.std.proofs.Common.{◌++◌, ◌∷◌, [], map, filter_map, take, sym, ap, ◌∙◌}
use Rattle.std.proofs.lemmas.List.{map_more}
use Rattle.std.proofs.lemmas.List.Elements.{filter_map-append}
use Rattle.imap_listing.specs.ViewNames.{listable_at}
use Rattle.imap_listing.proofs.view_names.listable_among.Goals as goal

pub loop-name-preserved : goal.loop-name-preserved
loop-name-preserved c =
    let f = listable_at c.args.view.now in
    let seen = map (λ name. name.now) (take c.loop-name.name-index c.args.names.now) in
    c.in_ok-push_listable.ensures ∙ ap (λ l. l ++ filter_map f (c.name-item.result.now ∷ [])) c.loop-name.invariant
    ∙ sym (filter_map-append f seen (c.name-item.result.now ∷ []))
    ∙ ap (filter_map f) (sym (map_more (λ name. name.now) c.args.names.now c.loop-name.name-index c.name-item.result c.loop-name-test.true ∙ ap (λ n. seen ++ n.now ∷ []) (sym c.name-item.is)))
