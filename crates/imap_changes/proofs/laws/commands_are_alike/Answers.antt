use Rattle.imap_changes.proofs.Fitting.{close_alike, expunge_alike}
use Rattle.imap_changes.proofs.StoreFitting.{store_alike}
use Rattle.imap_changes.proofs.TransferFitting.{transfer_alike}
use Rattle.imap_changes.proofs.laws.commands_are_alike.Goals as goal

pub returns-clause-expunge : goal.returns-clause-expunge
returns-clause-expunge c = expunge_alike

pub returns-clause-store : goal.returns-clause-store
returns-clause-store c = store_alike

pub returns-clause-close : goal.returns-clause-close
returns-clause-close c = close_alike

pub returns-clause-transfer : goal.returns-clause-transfer
returns-clause-transfer c = transfer_alike
