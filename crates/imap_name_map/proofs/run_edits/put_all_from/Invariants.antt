use Rattle.std.proofs.Common.{◌≡◌, ◌+◌, ◌≤◌, IsTrue, length, vec_len, take, drop}
use Rattle.std.specs.FinMap.Entries.{is_sorted}
use Rattle.std.specs.Vec.{vec_capacity}
use Rattle.std.specs.Vec.Iter.{into_iter_items, into_iter_len}
use Rattle.imap_names.specs.Order.{name_cmp}
use Rattle.imap_name_map.specs.Rows.{put_all}
use Rattle.imap_name_map.proofs.run_edits.put_all_from.Given as goal

abbrev pub invariant-loop-name : goal.invariant-loop-name
invariant-loop-name g l =
    record {
      made : put_all (drop l.start l.entries.items) (into_iter_items l.name-iterator) ≡ put_all (drop l.start l.fn.entries.items) l.fn.more.items;
      front : take l.start l.entries.items ≡ take l.start l.fn.entries.items;
      within : l.start ≤ length l.entries.items;
      sorted : IsTrue (is_sorted name_cmp (drop l.start l.entries.items));
      count : into_iter_len l.name-iterator ≡ length (into_iter_items l.name-iterator);
      len : vec_len l.entries + length (into_iter_items l.name-iterator) ≤ vec_len l.fn.entries + length l.fn.more.items;
      capacity : vec_capacity l.fn.entries ≤ vec_capacity l.entries;
    }
