use Rattle.std.proofs.Common.{refl, ap, ◌∙◌}
use Rattle.std.specs.Prelude.{codes}
use Rattle.imap_names.specs.UserName.{is_user_name}
use Rattle.imap_names.proofs.ReadLaws.{IsName-inbox}
use Rattle.imap_names.proofs.name.inbox_ref.Goals as goal

pub new-requires : goal.new-requires
new-requires c = IsName-inbox c.as_str.result.now (codes "INBOX") (ap is_user_name c.as_str.ensures.text ∙ c.as_str.ensures.valid) refl
