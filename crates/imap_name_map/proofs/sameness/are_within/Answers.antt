use Rattle.std.proofs.Common.{◌+◌, sym, ap, ◌∙◌}
use Rattle.std.specs.Prelude.{option_and_then}
use Rattle.std.specs.FinMap.Entries.{find}
use Rattle.imap_names.specs.Order.{name_cmp}
use Rattle.imap_name_map.proofs.Kept.{item_found, item_first, walk_goes_on}
use Rattle.imap_name_map.proofs.sameness.are_within.Goals as goal

pub returns-then-not-is_same_part : goal.returns-then-not-is_same_part
returns-then-not-is_same_part g c =
    let item = c.loop-name-item.result in
    let there = c.find_near.ensures ∙ ap (λ k. find name_cmp k c.args.others.now) c.as_ref.ensures.name in (
      λ e. absurd (cc e),
      λ is. c.if-not-is_same_part.ensures.1
          (is item.0 item.1 (item_found c.args.entries.now c.loop-name.name-index item c.requires.sorted c.loop-name-test.true c.loop-name-item.is)
          ∙ sym (ap (option_and_then g.V.Part.kept) there)),
    )

pub loop-name-preserved : goal.loop-name-preserved
loop-name-preserved g c =
    let item = c.loop-name-item.result in
    let there = c.find_near.ensures ∙ ap (λ k. find name_cmp k c.args.others.now) c.as_ref.ensures.name in record {
      place = ap (λ n. n + 1) c.loop-name.invariant.place;
      walked = walk_goes_on g.V.Part.kept c.args.entries.now c.args.others.now _ _ item.0 item.1
          (item_first c.args.entries.now c.loop-name.name-index item c.requires.sorted c.loop-name-test.true c.loop-name-item.is)
          (item_found c.args.entries.now c.loop-name.name-index item c.requires.sorted c.loop-name-test.true c.loop-name-item.is)
          (c.is_same_part.ensures.0 c.if-not-is_same_part.false ∙ ap (option_and_then g.V.Part.kept) there)
          c.loop-name.invariant.walked;
    }
