use Rattle.std.proofs.Common.{◌≡◌, ◌++◌, List, [], ◌∷◌, ℕ, map as map_list, string_bytes, sym, ap, subst, ◌∙◌}
use Rattle.std.specs.FinMap as map
use Rattle.std.proofs.lemmas.List.{map-append}
use Rattle.imap_rights.specs.Groups.{AreIdentifiersOf, Names, group_prefix}
use Rattle.imap_rights.proofs.GroupIdentifiers.{identifiers_with}
use Rattle.imap_rights.proofs.group_names.GroupNames.add.Goals as goal

pub invariant_of-self : goal.invariant_of-self
invariant_of-self c =
    subst (λ (m : Names). AreIdentifiersOf m (map_list string_bytes c.self.inside.identifiers.items)) (sym c.reserve.ensures.map) c.self.invariant

pub invariant_of-self-in_err-reserve-2 : goal.invariant_of-self-in_err-reserve-2
invariant_of-self-in_err-reserve-2 c =
    subst (λ l. AreIdentifiersOf c.reserve.new.self.map (map_list string_bytes l)) (sym c.reserve-2.ensures.items)
    (subst (λ (m : Names). AreIdentifiersOf m (map_list string_bytes c.self.inside.identifiers.items)) (sym c.reserve.ensures.map) c.self.invariant)

pub invariant_of-self-2 : goal.invariant_of-self-2
invariant_of-self-2 c =
    let old : Names = c.self.inside.names.map in
    let ids : List (List ℕ) = map_list string_bytes c.self.inside.identifiers.items in
    let more : map_list string_bytes c.push_reserved.new.self.items ≡ ids ++ string_bytes c.in_ok-identifier.identifier ∷ [] =
    ap (map_list string_bytes) (c.push_reserved.ensures.items ∙ ap (λ l. l ++ c.in_ok-identifier.identifier ∷ []) c.reserve-2.ensures.items)
    ∙ map-append string_bytes c.self.inside.identifiers.items (c.in_ok-identifier.identifier ∷ []) in
    let named : string_bytes c.in_ok-identifier.identifier ≡ group_prefix ++ string_bytes c.args.name =
    c.in_ok-identifier.ensures ∙ ap (λ n. group_prefix ++ n) c.as_str.ensures.value in
    subst (λ (m : Names). AreIdentifiersOf m (map_list string_bytes c.push_reserved.new.self.items))
    (sym (c.insert_reserved.ensures.map ∙ ap (λ (m : Names). map.insert m (string_bytes c.args.name) tt) c.reserve.ensures.map))
    (subst (AreIdentifiersOf (map.insert old (string_bytes c.args.name) tt)) (sym more)
    (identifiers_with old (string_bytes c.args.name) ids (string_bytes c.in_ok-identifier.identifier) c.self.invariant named))
