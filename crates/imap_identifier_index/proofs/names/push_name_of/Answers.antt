use Rattle.std.proofs.Common.{◌≡◌, ◌++◌, ◌∷◌, [], append-nil, map, Some, None, sym, ap, ◌∙◌}
use Rattle.std.specs.List.{cons_option}
use Rattle.std.specs.Option.{option_copied}
use Rattle.std.proofs.lemmas.List.{map-append}
use Rattle.imap_identifier_index.specs.Names.{name_at}
use Rattle.imap_identifier_index.proofs.names.push_name_of.Goals as goal

pub returns-in_ok-push-in-Some : goal.returns-in_ok-push-in-Some
returns-in_ok-push-in-Some c =
    let there : Some c.in-Some.name.now ≡ name_at c.args.names.now c.args.number.now = sym (ap option_copied c.in-Some.is) ∙ c.name_of.ensures in
    ap (map (λ name. name.now)) c.in_ok-push-in-Some.ensures.items ∙ map-append (λ name. name.now) c.args.list.now.items (c.in-Some.name ∷ [])
    ∙ ap (λ o. map (λ name. name.now) c.args.list.now.items ++ cons_option o []) there

pub returns-in-None : goal.returns-in-None
returns-in-None c =
    let absent : name_at c.args.names.now c.args.number.now ≡ None = sym c.name_of.ensures ∙ ap option_copied c.in-None.is in
    sym (ap (λ o. map (λ name. name.now) c.args.list.now.items ++ cons_option o []) absent ∙ append-nil (map (λ name. name.now) c.args.list.now.items))
