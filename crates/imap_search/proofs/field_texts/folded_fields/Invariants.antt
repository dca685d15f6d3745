use Rattle.std.proofs.Common.{◌≡◌, ◌++◌, drop, map}
use Rattle.imap_text.specs.Fields.{field_texts}
use Rattle.imap_text.specs.Folds.{fold}
use Rattle.imap_search.proofs.field_texts.folded_fields.Given as goal

abbrev pub invariant-loop-field : goal.invariant-loop-field
invariant-loop-field l = l.texts.items ++ map fold (map (λ t. t.now) (drop l.field-index l.field-items)) ≡ map fold (field_texts l.name l.fn.lookup)
