use Rattle.std.proofs.Common.{◌≡◌, ◌<◌, [], length, drop, Some, refl, sym, ap, ◌∙◌}
use Rattle.imap_commands.specs.Reading.{after_tag}
use Rattle.imap_grammar.proofs.Requests.{whole_read, more_read, nothing_left, something_left}
use Rattle.imap_grammar.proofs.reading.read_tagged.Goals as goal

pub returns-then-is_empty : goal.returns-then-is_empty
returns-then-is_empty c =
    let same : c.skip.new.self ≡ drop (length c.args.tag) c.args.frame.now = c.skip.ensures ∙ rw (c.as_slice.ensures.octets, c.new-cursor.ensures) refl in
    let none : c.read_after_tag.new.cursor ≡ [] = nothing_left c.rest.result.now c.read_after_tag.new.cursor c.rest.ensures c.if-is_empty.ensures in
    let read : after_tag.read (drop (length c.args.tag) c.args.frame.now) ≡ Some (c.in-Ok.body, []) = ap after_tag.read (sym same) ∙ c.in-Ok.ensures ∙ rw none refl in
    whole_read c.args.frame.now c.args.tag c.in-Ok.body c.requires read

pub returns-else-is_empty : goal.returns-else-is_empty
returns-else-is_empty c =
    let same : c.skip.new.self ≡ drop (length c.args.tag) c.args.frame.now = c.skip.ensures ∙ rw (c.as_slice.ensures.octets, c.new-cursor.ensures) refl in
    let some : 0 < length c.read_after_tag.new.cursor = something_left c.rest.result.now c.read_after_tag.new.cursor c.rest.ensures c.if-is_empty.ensures in
    let read : after_tag.read (drop (length c.args.tag) c.args.frame.now) ≡ Some (c.in-Ok.body, c.read_after_tag.new.cursor) = ap after_tag.read (sym same) ∙ c.in-Ok.ensures in
    more_read c.args.frame.now c.args.tag c.read_after_tag.new.cursor c.in-Ok.body c.requires read some
