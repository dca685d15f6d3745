use Rattle.std.proofs.Common.{◌≡◌, ◌++◌, drop, flat_map}
use Rattle.imap_print.specs.Pieces.{octets_of}
use Rattle.imap_serve.proofs.telling.tell_all.Given as goal

abbrev pub invariant-loop-reply : goal.invariant-loop-reply
invariant-loop-reply g l =
    octets_of l.out ++ flat_map (g.D.Dialect.octets l.rule) (drop l.reply-index l.replies) ≡ flat_map (g.D.Dialect.octets l.rule) l.replies
