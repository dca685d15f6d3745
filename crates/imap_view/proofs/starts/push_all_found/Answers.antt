use Rattle.std.proofs.Common.{◌≡◌, ◌+◌, ℕ, List, map as map_list, string_bytes, take, take_all, Contains, ◌⊎◌, inl, inr, sym, subst, ◌∙◌}
use Rattle.imap_view.specs.Starts.{AddsFound}
use Rattle.imap_view.proofs.Starting.{added_then, none_held, nothing_added, one_more}
use Rattle.imap_view.proofs.starts.push_all_found.Goals as goal

pub loop-identifier-init : goal.loop-identifier-init
loop-identifier-init c = λ lists index. nothing_added lists _ _ (λ text d. none_held text d)

pub loop-identifier-preserved : goal.loop-identifier-preserved
loop-identifier-preserved c = λ lists index.
    added_then lists (λ text. Contains (map_list string_bytes (take c.loop-identifier.identifier-index c.args.identifiers.now)) text) (λ text. text ≡ c.as_str.result.now)
    (λ text. Contains (map_list string_bytes (take (c.loop-identifier.identifier-index + 1) c.args.identifiers.now)) text) _ _ _
    (λ text d. named text
    (one_more string_bytes c.args.identifiers.now c.loop-identifier.identifier-index c.identifier-item.result c.loop-identifier-test.true c.identifier-item.is text d))
    (c.loop-identifier.invariant lists index) (c.in_ok-push_found.ensures lists index)
  where
    named : (text : List ℕ) → Contains (map_list string_bytes (take c.loop-identifier.identifier-index c.args.identifiers.now)) text ⊎ (text ≡ string_bytes c.identifier-item.result)
        → Contains (map_list string_bytes (take c.loop-identifier.identifier-index c.args.identifiers.now)) text ⊎ (text ≡ c.as_str.result.now)
    named text (inl d) = inl d
    named text (inr e) = inr (e ∙ sym c.as_str.ensures.value)

pub returns : goal.returns
returns c = λ lists index.
    subst (λ l. AddsFound lists (λ text. Contains (map_list string_bytes l) text) (map_list (λ name. name.now) c.args.names.now.items) (map_list (λ name. name.now) c.loop-identifier.names.items)) (take_all c.loop-identifier.identifier-index c.args.identifiers.now c.loop-identifier-test.false)
    (c.loop-identifier.invariant lists index)
