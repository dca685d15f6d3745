use Rattle.std.proofs.Common.{subst, sym}
use Rattle.imap_restore.specs.Holding.{IsUnmade}
use Rattle.imap_restore.specs.Parts.{ArePartsFor}
use Rattle.imap_restore.proofs.Refused.{are_apart, never_unmade}
use Rattle.imap_restore.proofs.Restored.{holds, if_ok}
use Rattle.imap_stored_values.proofs.Words.{same_fault}
use Rattle.imap_tables.specs.Contents.{AreAllApart}
use Rattle.imap_restore.proofs.restoring.restore.Goals as goal

pub restore_read-requires : goal.restore_read-requires
restore_read-requires c = subst AreAllApart (sym c.in-Ok.ensures.ok.0) c.in-Ok.ensures.ok.1

pub returns-in-Ok-clause-ok : goal.returns-in-Ok-clause-ok
returns-in-Ok-clause-ok c =
    let one = c.in-Ok.ensures.ok in
    if_ok c.restore_read.result
    (λ world it db rows. holds db c.args.stored rows one.1 it.0 (subst (λ t. ArePartsFor t it.0) one.0 it.1) world it.2) c.restore_read.ensures.ok

pub returns-in-Ok-clause-bad : goal.returns-in-Ok-clause-bad
returns-in-Ok-clause-bad c is db world rows hold =
    let one = c.in-Ok.ensures.ok in
    never_unmade db world hold (record { t = c.args.stored; are = rows }) one.1 (subst IsUnmade one.0 (c.restore_read.ensures.bad is))

pub returns-in-Err-clause-bad : goal.returns-in-Err-clause-bad
returns-in-Err-clause-bad c is db world rows hold = c.in-Err.ensures.bad (same_fault c.in-Err.error is) (are_apart db world hold c.args.stored rows)
