use Rattle.std.proofs.Common.{inl, inr, ◌∙◌}
use Rattle.imap_restore.proofs.Restored.{if_ok}
use Rattle.imap_stored_values.proofs.Words.{same_fault}
use Rattle.imap_restore.proofs.restoring.restore_read.Goals as goal

pub returns-in-Ok-clause-ok : goal.returns-in-Ok-clause-ok
returns-in-Ok-clause-ok c = if_ok c.make_world.result (λ world made. (c.in-Ok.parts, c.in-Ok.ensures.ok, made)) c.make_world.ensures.ok

pub returns-in-Ok-clause-bad : goal.returns-in-Ok-clause-bad
returns-in-Ok-clause-bad c is = inr (c.in-Ok.parts, c.in-Ok.ensures.ok, c.make_world.ensures.bad is)

pub returns-in-Err-clause-bad : goal.returns-in-Err-clause-bad
returns-in-Err-clause-bad c is = inl (c.read_parts.ensures.bad (c.in-Err.is ∙ same_fault c.in-Err.error is))
