use Rattle.std.proofs.Common.{◌≡◌, take}
use Rattle.imap_lex.specs.Mark.{LineTail, with_octets}
use Rattle.imap_lex.specs.Held.{held_tail}
use Rattle.imap_lex.proofs.mark.Tail.with_octets.Given as goal

abbrev pub invariant-loop-octet : goal.invariant-loop-octet
invariant-loop-octet l = (t : LineTail) → l.fn.self ≡ held_tail t → l.tail ≡ held_tail (with_octets t (take l.octet-index l.octets))
