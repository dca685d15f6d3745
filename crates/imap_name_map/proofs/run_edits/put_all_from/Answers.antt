use Rattle.std.proofs.Common.{◌≡◌, ◌∷◌, [], ◌++◌, IsTrue, length, drop, sym, ap, subst, ◌∙◌, arith}
use Rattle.std.specs.FinMap.Entries.{is_sorted, put}
use Rattle.std.specs.Vec.Iter.{into_iter_items}
use Rattle.std.proofs.lemmas.List.{take-append-drop}
use Rattle.imap_names.specs.Order.{name_cmp}
use Rattle.imap_name_map.specs.Rows.{put_all}
use Rattle.imap_name_map.proofs.Maps.{sorted_put}
use Rattle.imap_name_map.proofs.RunInserts.{same_front, new_back, front_within, nothing_left}
use Rattle.imap_name_map.proofs.run_edits.put_all_from.Goals as goal

pub loop-name-preserved : goal.loop-name-preserved
loop-name-preserved g c =
    let at = c.loop-name in
    let start = c.args.start in
    let es = at.entries.items in
    let made = c.put_from.new.entries.items in
    let ys = put name_cmp c.in-Some.name c.in-Some.value (drop start es) in
    let rest = into_iter_items c.next.new.self in
    let steps : into_iter_items at.name-iterator ≡ (c.in-Some.name, c.in-Some.value) ∷ rest = c.in-Some.ensures.steps.0 in
    let back : drop start made ≡ ys = new_back es made ys start at.invariant.within c.put_from.ensures.items in
    let gone = c.in-Some.ensures.steps.1 in
    let short = ap length steps in
    record {
      made = ap (λ l. put_all l rest) back ∙ sym (ap (put_all (drop start es)) steps) ∙ at.invariant.made;
      front = same_front es made ys start at.invariant.within c.put_from.ensures.items ∙ at.invariant.front;
      within = front_within es made ys start at.invariant.within c.put_from.ensures.items;
      sorted = subst (λ l. IsTrue (is_sorted name_cmp l)) (sym back) (sorted_put (drop start es) c.in-Some.name c.in-Some.value at.invariant.sorted);
      count = omega (arith, gone, short, at.invariant.count);
      len = omega (arith, short, at.invariant.len, c.put_from.ensures.len);
      capacity = omega (arith, at.invariant.capacity, c.put_from.ensures.capacity);
    }

pub returns-clause-items : goal.returns-clause-items
returns-clause-items g c =
    let at = c.loop-name in
    let start = c.args.start in
    let es = at.entries.items in
    let empty : into_iter_items at.name-iterator ≡ [] = nothing_left _ _ at.invariant.count c.in-None.ensures.steps.0 in
    let end : drop start es ≡ put_all (drop start c.args.entries.now.items) c.args.more.items = sym (ap (put_all (drop start es)) empty) ∙ at.invariant.made in
    sym (take-append-drop start es) ∙ (λ i. at.invariant.front i ++ end i)
