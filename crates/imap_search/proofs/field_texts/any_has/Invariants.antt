use Rattle.std.proofs.Common.{◌≡◌, drop}
use Rattle.std.specs.List.{list_any}
use Rattle.imap_text.specs.Folds.{fold}
use Rattle.imap_search.specs.Within.{is_within}
use Rattle.imap_search.proofs.field_texts.any_has.Given as goal

abbrev pub invariant-loop-text : goal.invariant-loop-text
invariant-loop-text l = list_any (is_within (fold l.wanted)) (drop l.text-index l.texts) ≡ list_any (is_within (fold l.wanted)) l.initial.texts
