use Rattle.std.proofs.Common.{◌∙◌, sym}
use Rattle.imap_lex.proofs.Tails.{held_mark-of}
use Rattle.imap_lex.proofs.place.Place.after_line.Goals as goal

pub returns-in-Some-clause-outcome : goal.returns-in-Some-clause-outcome
returns-in-Some-clause-outcome c = λ limit octets part announced held.
    let found = held_mark-of c.in-Some.mark announced (sym c.in-Some.is ∙ held) in
    rw found.1 (c.after_mark.ensures.outcome limit octets part found.0 found.2)
