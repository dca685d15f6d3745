use Rattle.std.proofs.Common.{◌∙◌}
use Rattle.std.specs.Prelude.{string_bytes}
use Rattle.imap_names.specs.Valid.{IsName}
use Rattle.imap_stored_values.specs.Restored.{HasKeyOf}
use Rattle.imap_stored_values.proofs.Kept.{refused, subscribed}
use Rattle.imap_stored_values.proofs.lists.StoredSubscriptionListed.read.Goals as goal

pub returns-in-Err-clause-bad : goal.returns-in-Err-clause-bad
returns-in-Err-clause-bad c is it one =
    refused (HasKeyOf c.args.self.now.key) IsName c.in-Err.error c.in-Err.ensures is it.name one.1 one.0

pub returns-in-Ok-clause-ok : goal.returns-in-Ok-clause-ok
returns-in-Ok-clause-ok c =
    subscribed c.args.self.now c.in-Ok.name (string_bytes c.in_ok-user.user) c.new.result c.new.ensures c.in-Ok.ensures (c.in_ok-user.ensures.ok ∙ c.deref.ensures)
