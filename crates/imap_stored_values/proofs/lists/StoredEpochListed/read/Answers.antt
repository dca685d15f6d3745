use Rattle.imap_names.specs.Valid.{IsName}
use Rattle.imap_stored_values.specs.Restored.{HasKeyOf}
use Rattle.imap_stored_values.proofs.Kept.{refused}
use Rattle.imap_stored_values.proofs.lists.StoredEpochListed.read.Goals as goal

pub returns-in-Err-clause-bad : goal.returns-in-Err-clause-bad
returns-in-Err-clause-bad c is it one =
    refused (HasKeyOf c.args.self.now.key) IsName c.in-Err.error c.in-Err.ensures is it.0 one.1 one.0
