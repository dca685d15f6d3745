use Rattle.imap_world.specs.Stored.{world_of}
use Rattle.imap_restore.proofs.Restored.{if_ok}
use Rattle.imap_restore.proofs.Split.{never_joined, split_holds, split_refused}
use Rattle.imap_stored_values.proofs.Words.{same_fault}
use Rattle.imap_restore.proofs.restoring.restore_split.Goals as goal

pub returns-in-Ok-clause-ok : goal.returns-in-Ok-clause-ok
returns-in-Ok-clause-ok c =
    let it = c.in-Ok.ensures.ok in
    if_ok c.restore.result (λ world holds. split_holds c.args.stored c.args.added c.in-Ok.one (world_of world) it.0 it.1 holds) c.restore.ensures.ok

pub returns-in-Ok-clause-bad : goal.returns-in-Ok-clause-bad
returns-in-Ok-clause-bad c is db world are hold =
    let it = c.in-Ok.ensures.ok in
    split_refused c.args.stored c.args.added c.in-Ok.one it.0 it.1 (c.restore.ensures.bad is) db world are hold

pub returns-in-Err-clause-bad : goal.returns-in-Err-clause-bad
returns-in-Err-clause-bad c is db world are hold = never_joined c.args.stored c.args.added (c.in-Err.ensures.bad (same_fault c.in-Err.error is)) db world are hold
