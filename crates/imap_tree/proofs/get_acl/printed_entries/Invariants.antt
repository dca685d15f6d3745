use Rattle.std.proofs.Common.{◌≡◌, map, take}
use Rattle.imap_rights.specs.Entries.{pairs_of}
use Rattle.imap_tree.specs.GetAcl.{ArePlain, acl_entry}
use Rattle.imap_tree.proofs.get_acl.printed_entries.Given as goal

abbrev pub invariant-loop-entry : goal.invariant-loop-entry
invariant-loop-entry l = record {
  entries : l.printed.items ≡ map acl_entry (pairs_of (take l.entry-index l.entries));
  plain : ArePlain l.printed.items;
}
