use Rattle.std.proofs.Common.{ap, ◌∙◌}
use Rattle.imap_sessions.specs.Accounts.{accounts_of}
use Rattle.imap_sessions.proofs.Roomless.{accounts_empty}
use Rattle.imap_sessions.proofs.accounts.no_accounts.Goals as goal

pub returns : goal.returns
returns c = ap accounts_of c.new.ensures ∙ accounts_empty
