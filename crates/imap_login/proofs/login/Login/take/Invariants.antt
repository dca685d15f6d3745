use Rattle.std.proofs.Common.{◌≡◌, length}
use Rattle.imap_login.specs.Login.{heard, with_text}
use Rattle.imap_login.proofs.login.Login.take.Given as goal

abbrev pub invariant-loop-rest : goal.invariant-loop-rest
invariant-loop-rest l =
    with_text l.out.items (heard l.credentials l.self l.rest) ≡ with_text l.fn.out.items (heard l.credentials l.fn.self l.piece)

abbrev pub decreases-loop-rest : goal.decreases-loop-rest
decreases-loop-rest l = length l.rest
