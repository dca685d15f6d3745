use Rattle.std.proofs.Common.{◌+◌, ◌-◌, get_or, subst, ap, ◌∙◌, arith}
use Rattle.imap_names.specs.declared.letters.Letter.{Letter}
use Rattle.imap_names.specs.Letters.{blank}
use Rattle.imap_names.specs.Places.{AddsLetter}
use Rattle.imap_names.proofs.MarkLaws.{marks_more, no_marks}
use Rattle.imap_names.proofs.places.letter_marks.Goals as goal

pub loop-n-init : goal.loop-n-init
loop-n-init c = record { within = omega arith; marks = no_marks c.args.text.now c.args.base }

pub loop-n-preserved : goal.loop-n-preserved
loop-n-preserved c = record {
  within = omega arith;
  marks = marks_more c.args.text.now c.args.base c.loop-n.n c.loop-n.octets c.mark_letter.new.octets c.loop-n.invariant.marks
      (subst (λ (x : Letter). AddsLetter c.loop-n.octets x (c.loop-n.n + 1) c.mark_letter.new.octets)
      (c.at.ensures ∙ ap (λ k. get_or c.args.text.now (k - (c.args.base + (c.loop-n.n + 1))) blank) c.len-len.ensures.len) c.mark_letter.ensures);
}
