use Rattle.std.proofs.Common.{ℕ, List, sym, ap, ◌∙◌}
use Rattle.std.specs.Prelude.{option_map}
use Rattle.std.specs.FinMap as map
use Rattle.imap_sessions.specs.Accounts.{accounts_of}
use Rattle.imap_sessions.specs.Sessions.{own_of}
use Rattle.imap_sessions.proofs.Roomless.{get_accounts}
use Rattle.imap_sessions.proofs.accounts.own_sessions.Goals as goal

pub returns : goal.returns
returns c =
    ap (option_map own_of) c.get.ensures ∙ sym (get_accounts c.args.accounts.now.map c.as_str.result.now)
    ∙ ap (λ (user : List ℕ). map.get (accounts_of c.args.accounts.now.map) user) c.as_str.ensures.text
