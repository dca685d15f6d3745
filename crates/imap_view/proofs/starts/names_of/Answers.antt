use Rattle.std.proofs.Common.{◌≡◌, ℕ, List, [], map as map_list, string_bytes, true, Contains, sym, subst₂, ◌∙◌}
use Rattle.std.specs.Prelude.{bytes_eq}
use Rattle.imap_world.specs.Groups.{AreIdentifiersOf, Members, anyone, groups_of}
use Rattle.imap_view.proofs.Starting.{fewer, found_by_steps, starts_are}
use Rattle.imap_view.proofs.starts.names_of.Goals as goal

pub returns : goal.returns
returns c = λ lists text index start.
    let site = c.args.site.now in
    let user = c.args.user.now in
    let identifiers : List (List ℕ) = map_list string_bytes c.identifiers.result.now in
    let are : AreIdentifiersOf (groups_of site.groups user) identifiers =
    subst₂ (λ (groups : Members) (name : List ℕ). AreIdentifiersOf (groups_of groups name) identifiers) c.groups.ensures c.as_str-2.ensures.text c.identifiers.ensures in
    found_by_steps lists (λ t. t ≡ user) (λ t. t ≡ anyone) (λ t. (t ≡ []) × (bytes_eq site.administrator user ≡ true)) (λ t. Contains identifiers t) _ _ _ _ _
    (fewer lists (λ t. t ≡ c.as_str.result.now) (λ t. t ≡ user) _ _ (λ t is. is ∙ sym c.as_str.ensures.text) (c.in_ok-push_found.ensures lists index)) (c.in_ok-push_found-2.ensures lists index)
    (c.in_ok-push_shared.ensures lists index) (c.in_ok-push_all_found.ensures lists index) text (starts_are site user text identifiers are start)
