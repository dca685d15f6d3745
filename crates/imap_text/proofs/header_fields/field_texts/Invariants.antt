use Rattle.std.proofs.Common.{◌≡◌, ◌++◌, length, map}
use Rattle.imap_text.specs.Fields.{field_texts}
use Rattle.imap_text.proofs.header_fields.field_texts.Given as goal

abbrev pub invariant-loop-field : goal.invariant-loop-field
invariant-loop-field l = map (λ text. text.now) l.texts.items ++ field_texts l.name l.rest ≡ field_texts l.name l.message

abbrev pub decreases-loop-field : goal.decreases-loop-field
decreases-loop-field l = length l.rest
