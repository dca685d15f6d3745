use Rattle.std.proofs.Common.{ap, ◌∙◌}
use Rattle.imap_names.specs.UserName.{is_user_name}
use Rattle.imap_names.proofs.ReadLaws.{IsName-inbox}
use Rattle.imap_names.proofs.name.inbox.Goals as goal

pub invariant_of-result : goal.invariant_of-result
invariant_of-result c =
    IsName-inbox _ _ (ap is_user_name c.in_ok-try_copy.ensures.copy ∙ c.try_copy.ensures.valid) c.in_ok-path.ensures.ok

pub returns-clause-valid : goal.returns-clause-valid
returns-clause-valid c =
    IsName-inbox _ _ (ap is_user_name c.in_ok-try_copy.ensures.copy ∙ c.try_copy.ensures.valid) c.in_ok-path.ensures.ok
