use Rattle.std.proofs.Common.{◌≡◌, ◌∙◌, ap, rules, ℕ, ◌++◌, ◌∷◌, [], length, map}
use Rattle.std.specs.Char.{to_ascii_lowercase}
use Rattle.imap_text.specs.Fields.{is_named}
use Rattle.imap_text.specs.Places.{places_of}
use Rattle.imap_text.proofs.Cutting.{IsCutTo-none, IsCutTo-more, place_if}
use Rattle.imap_text.proofs.field_index.FieldIndex.new.Goals as goal

pub loop-field-init : goal.loop-field-init
loop-field-init c = rw c.new-bounds.ensures.items (IsCutTo-none c.args.octets.now c.new-named.result c.new-named.ensures)

pub loop-field-preserved : goal.loop-field-preserved
loop-field-preserved c =
    let field = c.in-Some.field in
    let count : c.len.result ≡ length c.loop-field.bounds.items = search rules in
    IsCutTo-more c.args.octets.now c.loop-field.bounds.items c.push.new.self.items c.loop-field.named c.add_field.new.named (length c.args.octets.now) c.loop-field.rest.now
    field.line.now field.octets.now field.later.now c.in-Some.ensures c.in_ok-push.ensures.items
    (λ name. c.in_ok-add_field.ensures name ∙ ap (λ (n : ℕ). places_of c.loop-field.named (map to_ascii_lowercase name) ++ place_if (is_named (name ∷ []) field.line.now) n) count)
    c.loop-field.invariant
