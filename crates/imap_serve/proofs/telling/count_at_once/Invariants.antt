use Rattle.std.specs.Prelude.{◌≡◌}
use Rattle.imap_serve.proofs.telling.count_at_once.Given as goal

abbrev pub invariant-loop-reply : goal.invariant-loop-reply
invariant-loop-reply l = l.count ≡ l.reply-index
