use Rattle.std.proofs.Common.{◌≡◌, ◌∙◌, ap, sym, ℕ, ◌-◌, ◌<◌, false, List, ◌∷◌, ◌++◌, length, arith}
use Rattle.std.proofs.lemmas.Bool.Decides.{nat_tests}
use Rattle.imap_mime.specs.Envelope.{envelope_of, envelope_text}
use Rattle.imap_text.specs.Sections.{text}
use Rattle.imap_structure.specs.declared.media.MediaType.{MediaType}
use Rattle.imap_structure.specs.Single.{single_end, single_front}
use Rattle.imap_structure.specs.Structure.{entity_text, lines_text, structure_text}
use Rattle.imap_structure.proofs.Depth.{message_told, structure_at_limit, structure_below}
use Rattle.imap_structure.proofs.structure.+structures.Goals as goal

pub push_message-returns : goal.push_message-returns
push_message-returns t c =
    let octets = c.args.octets.now in
    let body = text octets in
    message_told c.args.out.now.items (single_front c.args.media.now octets (length body)) (32 ∷ envelope_text (envelope_of body))
    (32 ∷ structure_text c.args.extended c.args.depth false body) (32 ∷ lines_text body) (single_end c.args.extended octets)
    c.push_front.new.out.items c.push_inner_envelope.new.out.items c.push_inner_structure.new.out.items c.push_lines.new.out.items c.push_end.new.out.items
    c.in_ok-push_front.ensures c.in_ok-push_inner_envelope.ensures c.in_ok-push_inner_structure.ensures c.in_ok-push_lines.ensures c.in_ok-push_end.ensures

pub push_part-returns-then-depth-eq0 : goal.push_part-returns-then-depth-eq0
push_part-returns-then-depth-eq0 t c =
    c.in_ok-push_limit.ensures
    ∙ ap (λ (l : List ℕ). c.args.out.now.items ++ l) (sym (structure_at_limit c.args.extended c.args.in_digest c.args.octets.now c.args.depth c.if-depth-eq0.true))

pub push_part-returns : goal.push_part-returns
push_part-returns t c =
    let deep = c.if-depth-eq0.false in
    let some : 0 < c.args.depth = grind (arith, nat_tests) in
    c.in_ok-push_entity.ensures
    ∙ ap (λ (m : MediaType). c.args.out.now.items ++ entity_text c.args.extended (structure_text c.args.extended (c.args.depth - 1)) m c.args.octets.now) c.in_ok-media.ensures
    ∙ ap (λ (l : List ℕ). c.args.out.now.items ++ l) (sym (structure_below c.args.extended c.args.in_digest c.args.octets.now c.args.depth some))
