use Rattle.std.proofs.Common.{◌∙◌, sym, ap, take, arith}
use Rattle.imap_lex.specs.Mark.{with_octets}
use Rattle.imap_lex.specs.Held.{held_tail}
use Rattle.imap_lex.proofs.Tails.{with_octets-next}
use Rattle.imap_lex.proofs.mark.Tail.with_octets.Goals as goal

pub loop-octet-preserved : goal.loop-octet-preserved
loop-octet-preserved c = λ e same.
    let at = c.loop-octet.octet-index in
    c.with_octet-tail.ensures (with_octets e (take at c.args.octets.now)) (c.loop-octet.invariant e same)
    ∙ ap held_tail (sym (with_octets-next e c.args.octets.now at (omega arith)))
