use Rattle.std.proofs.Common.{◌≡◌, ◌+◌, ◌-◌, ◌≤◌, rules, arith, sym, ap, ◌∙◌, slice_range}
use Rattle.std.proofs.lemmas.List.{places}
use Rattle.std.specs.Arc.{arc_value}
use Rattle.imap_lex.proofs.Parts.{part_of_part}
use Rattle.imap_lex.proofs.octets.Octets.slice.Goals as goal

pub returns : goal.returns
returns c =
    let o = c.self.inside in
    let start = c.args.start in
    let end = c.args.end in
    ap (λ whole. slice_range whole.items (o.start + start) (o.start + end)) c.in_ok-whole.ensures
    ∙ sym (part_of_part (arc_value o.whole).items o.start o.end start end c.requires.order (search (rules, places)))
    ∙ ap (λ l. slice_range l start end) c.self.view_is
