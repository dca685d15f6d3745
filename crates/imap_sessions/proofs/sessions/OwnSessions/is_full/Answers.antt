use Rattle.std.proofs.Common.{sym, ap, ◌∙◌, nat_le, ◌≡◌, length, rules}
use Rattle.std.specs.FinMap as map
use Rattle.imap_sessions.specs.Sessions.{states_of}
use Rattle.imap_sessions.proofs.Numbered.{len-numbered}
use Rattle.imap_sessions.proofs.Opened.{states_apart, states_length}
use Rattle.imap_sessions.proofs.Roomless.{view_own}
use Rattle.imap_sessions.proofs.sessions.OwnSessions.is_full.Goals as goal

pub returns : goal.returns
returns c =
    let es = c.self.inside.entries.items in
    let few : c.len.result ≡ length es = search rules in
    ap (nat_le 16) (few ∙ sym (states_length es) ∙ sym (len-numbered (states_of es) (states_apart es ∙ c.self.invariant.apart))
    ∙ ap map.len (view_own es c.args.self.now c.self.view_is))
