use Rattle.std.proofs.Common.{◌≡◌, Bool, true, take, map as map_list}
use Rattle.std.specs.FinMap as map
use Rattle.imap_names.specs.Name.{Name}
use Rattle.imap_world.specs.Mailbox.{is_shared, plain_all}
use Rattle.imap_world.proofs.Sharing.{is_first}
use Rattle.imap_world.proofs.copies.share_mailboxes.Given as goal

abbrev pub invariant-loop-index : goal.invariant-loop-index
invariant-loop-index l = record {
  contents : plain_all l.mailboxes.map ≡ plain_all l.fn.mailboxes.map;
  len : map.len l.mailboxes.map ≡ map.len l.fn.mailboxes.map;
  shared : (q : Name) → is_first q l.index (plain_all l.fn.mailboxes.map) ≡ true → is_shared (map.get l.mailboxes.map q) ≡ true;
}
