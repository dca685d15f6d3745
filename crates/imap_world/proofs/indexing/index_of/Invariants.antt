use Rattle.std.proofs.Common.{◌≡◌, T, drop}
use Rattle.std.specs.FinMap as map
use Rattle.std.specs.FinMap.Entries.{is_sorted}
use Rattle.imap_identifier_index.specs.Index.{IsIndexOf}
use Rattle.imap_names.specs.Order.{name_cmp}
use Rattle.imap_world.specs.Mailbox.{plain_all}
use Rattle.imap_world.proofs.ListsChanged.{done_lists}
use Rattle.imap_world.proofs.indexing.index_of.Given as goal

abbrev pub invariant-loop-place : goal.invariant-loop-place
invariant-loop-place l = record {
  contents : plain_all l.mailboxes.map ≡ plain_all l.fn.mailboxes.map;
  len : map.len l.mailboxes.map ≡ map.len l.fn.mailboxes.map;
  sorted : T (is_sorted name_cmp (drop l.place (map.entries (plain_all l.fn.mailboxes.map))));
  index : IsIndexOf l.index (done_lists (drop l.place (map.entries (plain_all l.fn.mailboxes.map))) (plain_all l.fn.mailboxes.map));
}
