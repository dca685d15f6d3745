use Rattle.std.proofs.Common.{ℕ, List, ap, ◌∙◌, arith, length}
use Rattle.std.specs.FinMap as map
use Rattle.imap_sessions.specs.Held.{HeldSession}
use Rattle.imap_sessions.specs.Sessions.{Own, own_of, states_of}
use Rattle.imap_sessions.proofs.Numbered.{numbered-others, are_apart-others, length-others, others}
use Rattle.imap_sessions.proofs.Opened.{states_others}
use Rattle.imap_sessions.proofs.Roomless.{held, own_entries, view_own}
use Rattle.imap_sessions.proofs.sessions.OwnSessions.remove.Goals as goal

pub invariant_of-self : goal.invariant_of-self
invariant_of-self c = record {
  apart = rw c.take_out.ensures.items (are_apart-others c.self.inside.entries.items c.args.number c.self.invariant.apart);
  few = omega (arith, length-others c.self.inside.entries.items c.args.number, ap length c.take_out.ensures.items, c.self.invariant.few);
  room = omega (arith, c.take_out.ensures.capacity, c.self.invariant.room);
}

pub returns : goal.returns
returns c =
    let es = c.self.inside.entries.items in
    let k = c.args.number in
    ap (λ (l : List (ℕ × HeldSession)). own_of (held l)) c.take_out.ensures.items ∙ own_entries (others k es)
    ∙ ap map.from_entries (states_others es k) ∙ numbered-others (states_of es) k
    ∙ ap (λ (m : Own). map.remove m k) (view_own es c.args.self.now c.self.view_is)
