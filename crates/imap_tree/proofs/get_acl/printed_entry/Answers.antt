use Rattle.imap_tree.proofs.Plain.{identifier_plain}
use Rattle.imap_tree.proofs.get_acl.printed_entry.Goals as goal

pub returns-in_err-from_slice-clause-plain : goal.returns-in_err-from_slice-clause-plain
returns-in_err-from_slice-clause-plain c = identifier_plain c.args.entry.now.identifier c.as_bytes.ensures.valid

pub returns-clause-plain : goal.returns-clause-plain
returns-clause-plain c = identifier_plain c.args.entry.now.identifier c.as_bytes.ensures.valid
