use Rattle.std.proofs.Common.{subst, sym, arith, inr, ◌∙◌}
use Rattle.std.specs.Prelude.{◌↔◌, ◌⊎◌}
use Rattle.std.proofs.lemmas.Result.{IfOk-weaker}
use Rattle.std.specs.List.{Contains}
use Rattle.imap_listing.specs.Texts.{Text, IsBelow}
use Rattle.imap_listing.proofs.Hierarchy.{HasLevelsOf, all_levels_more, all_levels_all, levels_in_order}
use Rattle.imap_listing.proofs.levels.levels_of.Goals as goal

pub push_more_levels-requires-clause-before : goal.push_more_levels-requires-clause-before
push_more_levels-requires-clause-before c = c.loop-name.invariant.before.all

pub loop-name-preserved : goal.loop-name-preserved
loop-name-preserved c =
    let added : (n : Text) → Contains c.push_more_levels.new.levels.items n ↔ (Contains c.loop-name.levels.items n ⊎ IsBelow n c.name-item.result) =
    subst (λ (z : Text). (n : Text) → Contains c.push_more_levels.new.levels.items n ↔ (Contains c.loop-name.levels.items n ⊎ IsBelow n z)) c.as_str.ensures.text c.in_ok-push_more_levels.ensures in
    record {
      utf8 = c.as_str-before.utf8;
      before = subst (λ (z : Text). HasLevelsOf c.push_more_levels.new.levels.items z) (sym c.as_str-before.ensures.text) (record { all = λ n b. (added n).1 (inr b) });
      levels = all_levels_more c.loop-name.levels.items c.push_more_levels.new.levels.items c.args.names.now c.loop-name.name-index c.name-item.result c.loop-name-test.true c.name-item.is c.loop-name.invariant.levels added;
    }

pub returns : goal.returns
returns c =
    let found = c.loop-name.levels.items in
    let names = c.args.names.now in
    IfOk-weaker c.from_names.result _ _ (λ above e.
    e ∙ levels_in_order found names (all_levels_all found names c.loop-name.name-index (omega arith) c.loop-name.invariant.levels))
    c.from_names.ensures
