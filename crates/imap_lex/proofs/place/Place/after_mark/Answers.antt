use Rattle.std.proofs.Common.{◌≡◌, ◌∙◌, ◌≤◌, ◌-◌, ◌^◌, min, ap, sym, arith, refl, true, false}
use Rattle.std.proofs.lemmas.Bool.{le-ltb}
use Rattle.imap_lex.specs.Limits.{max_unasked_octets}
use Rattle.imap_lex.specs.declared.mark.LiteralMark.{LiteralMark}
use Rattle.imap_lex.proofs.place.Place.after_mark.Goals as goal

pub returns-else-mark-from-clause-outcome : goal.returns-else-mark-from-clause-outcome
returns-else-mark-from-clause-outcome c = λ limit octets part announced held.
    let waits : announced.waits ≡ true = ap (λ (m : LiteralMark). m.waits) (sym held) ∙ c.if-mark.true in
    let size : c.args.mark.size ≡ min announced.size (2 ^ 128 - 1) = ap (λ (m : LiteralMark). m.size) held in
    let same : c.args.mark.size ≡ announced.size = omega arith in
    let fits : announced.size ≤ c.args.self.room = omega arith in
    rw (waits, le-ltb c.args.self.room announced.size fits, c.before_literal.ensures.begun octets part, same) refl

pub returns-else-mark-from-2-clause-outcome : goal.returns-else-mark-from-2-clause-outcome
returns-else-mark-from-2-clause-outcome c = λ limit octets part announced held.
    let waits : announced.waits ≡ false = ap (λ (m : LiteralMark). m.waits) (sym held) ∙ c.if-mark.false in
    let size : c.args.mark.size ≡ min announced.size (2 ^ 128 - 1) = ap (λ (m : LiteralMark). m.size) held in
    let same : c.args.mark.size ≡ announced.size = omega arith in
    let fits : announced.size ≤ min c.args.self.room max_unasked_octets = omega arith in
    rw (waits, le-ltb (min c.args.self.room max_unasked_octets) announced.size fits, c.before_literal-else-mark.ensures.begun octets part, same) refl
