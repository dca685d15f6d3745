use Rattle.std.proofs.Common.{◌≡◌, Some, None, sym, ap, ◌∙◌}
use Rattle.std.specs.List.{position}
use Rattle.std.specs.FinMap as map
use Rattle.imap_sessions.specs.Held.{HeldSession}
use Rattle.imap_sessions.specs.Sessions.{Own}
use Rattle.imap_sessions.proofs.Opened.{get_at, get_nowhere, has_number}
use Rattle.imap_sessions.proofs.Roomless.{view_own}
use Rattle.imap_sessions.proofs.sessions.OwnSessions.get.Goals as goal

pub returns-in-Some : goal.returns-in-Some
returns-in-Some c =
    let k = c.args.number in
    let es = c.self.inside.entries.items in
    let at : position (has_number k) es ≡ Some c.in-Some.index = ap (position (has_number k)) (sym c.deref.ensures.value) ∙ sym c.index_of.ensures ∙ c.in-Some.is in
    ap Some c.session.ensures ∙ sym (get_at (λ (h : HeldSession). h.state) k es c.in-Some.index c.index.result.now at c.index.ensures)
    ∙ ap (λ (own : Own). map.get own k) (view_own es c.args.self.now c.self.view_is)

pub returns-in-None : goal.returns-in-None
returns-in-None c =
    let k = c.args.number in
    let es = c.self.inside.entries.items in
    let at : position (has_number k) es ≡ None = ap (position (has_number k)) (sym c.deref.ensures.value) ∙ sym c.index_of.ensures ∙ c.in-None.is in
    sym (get_nowhere (λ (h : HeldSession). h.state) k es at) ∙ ap (λ (own : Own). map.get own k) (view_own es c.args.self.now c.self.view_is)
