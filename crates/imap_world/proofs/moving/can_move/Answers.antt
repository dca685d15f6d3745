use Rattle.std.proofs.Common.{◌≡◌, Bool, true, false, refl, sym, ◌∙◌, true≢false}
use Rattle.std.specs.Prelude.{bytes_eq}
use Rattle.std.proofs.lemmas.Slice.Eq.{bytes_eq-Decides}
use Rattle.imap_names.specs.Name.{root_of}
use Rattle.imap_names.specs.Order.{is_below}
use Rattle.imap_names.proofs.OrderLaws.{IsAbove_from_below, below_from_IsAbove}
use Rattle.imap_world.proofs.Moves.{can_move_is}
use Rattle.imap_world.proofs.moving.can_move.Goals as goal

pub returns-then-is_same : goal.returns-then-is_same
returns-then-is_same c =
    let old = c.args.old.now in
    let new = c.args.new.now in
    let roots : bytes_eq (root_of old) (root_of new) ≡ true =
    (bytes_eq-Decides (root_of old) (root_of new)).1 (sym c.tree.ensures.root ∙ c.is_same.ensures.0 c.if-is_same.true ∙ c.tree-2.ensures.root) in
    sym (can_move_is old new c.tree.ensures.valid c.tree-2.ensures.valid true false c.is_above.result roots (sym c.is_inbox.ensures ∙ c.if-is_inbox.false) (by c.is_above.result refl (is_below old new) refl))
  where
    by : (b : Bool) → c.is_above.result ≡ b → (d : Bool) → is_below c.args.old.now c.args.new.now ≡ d → is_below c.args.old.now c.args.new.now ≡ c.is_above.result
    by true e true h = h ∙ sym e
    by true e false h = absurd (true≢false (sym (below_from_IsAbove c.args.old.now c.args.new.now (c.is_above.ensures.0 e)) ∙ h))
    by false e true h = absurd (true≢false (sym (c.is_above.ensures.1 (IsAbove_from_below c.args.old.now c.args.new.now h)) ∙ e))
    by false e false h = h ∙ sym e
