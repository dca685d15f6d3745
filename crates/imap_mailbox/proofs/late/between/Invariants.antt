use Rattle.std.proofs.Common.{◌≡◌, ℕ, true, take}
use Rattle.imap_mailbox.specs.Late.{may_have}
use Rattle.imap_mailbox.specs.Rows.{is_among}
use Rattle.imap_mailbox.proofs.late.between.Given as goal

abbrev pub invariant-loop-uid : goal.invariant-loop-uid
invariant-loop-uid l = (uid : ℕ) → is_among uid (take l.uid-index l.uids) ≡ true → may_have l.late uid ≡ true
