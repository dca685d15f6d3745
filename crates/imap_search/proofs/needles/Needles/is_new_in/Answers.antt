use Rattle.std.proofs.Common.{◌∙◌, ap, sym}
use Rattle.imap_text.specs.Folds.{fold}
use Rattle.imap_search.proofs.KeptFolds.{IsFold, values_put}
use Rattle.imap_search.proofs.needles.Needles.is_new_in.Goals as goal

pub invariant_of-self-2 : goal.invariant_of-self-2
invariant_of-self-2 c =
    values_put IsFold c.insert.result c.in_ok-from_slice.field-0 c.in_ok-needle.needle c.self.inside.folds.entries c.insert.new.self.entries
    (c.in_ok-needle.ensures ∙ ap fold (sym c.in_ok-from_slice.ensures.items)) c.self.invariant c.insert.ensures.entries c.insert.ensures.err
