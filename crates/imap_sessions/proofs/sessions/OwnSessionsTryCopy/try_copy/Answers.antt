use Rattle.std.proofs.Common.{◌≡◌, ℕ, List, length, ap, ◌∙◌, arith}
use Rattle.imap_sessions.specs.Held.{HeldSession}
use Rattle.imap_sessions.specs.Sessions.{are_apart}
use Rattle.imap_sessions.proofs.sessions.OwnSessionsTryCopy.try_copy.Goals as goal

pub invariant_of-result : goal.invariant_of-result
invariant_of-result c =
    let items : c.in_ok-entries.entries.items ≡ c.self.inside.entries.items = c.in_ok-entries.ensures.items ∙ c.as_slice.ensures.value in
    record {
      apart = ap (λ (l : List (ℕ × HeldSession)). are_apart l) items ∙ c.self.invariant.apart;
      few = omega (arith, ap length items, c.self.invariant.few);
      room = c.in_ok-entries.ensures.room;
    }
