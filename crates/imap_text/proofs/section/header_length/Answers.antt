use Rattle.std.proofs.Common.{◌∙◌, sym, subst, Option, ℕ}
use Rattle.bstr.specs.Find.{FindsNeedle}
use Rattle.imap_text.proofs.HeaderLength.{two_lines, length-found, length-none}
use Rattle.imap_text.proofs.section.header_length.Goals as goal

pub returns-in-Some-clause-length : goal.returns-in-Some-clause-length
returns-in-Some-clause-length c =
    length-found c.args.octets.now c.in-Some.at (sym c.begins_with_empty_line.ensures ∙ c.if-begins_with_empty_line.false) (subst (λ (r : Option ℕ). FindsNeedle c.args.octets.now two_lines 0 r) c.in-Some.is c.find.ensures)

pub returns-in-None-clause-length : goal.returns-in-None-clause-length
returns-in-None-clause-length c =
    length-none c.args.octets.now (sym c.begins_with_empty_line.ensures ∙ c.if-begins_with_empty_line.false) (subst (λ (r : Option ℕ). FindsNeedle c.args.octets.now two_lines 0 r) c.in-None.is c.find.ensures)
