use Rattle.std.proofs.Common.{◌≡◌, List, ℕ, ◌++◌, subst, string_bytes, encode_utf8_all, OnOk}
use Rattle.std.proofs.lemmas.Iterator.Adapters.{items_from_extend}
use Rattle.std.specs.Str.Iter.{chars_steps}
use Rattle.unicode_normalization.proofs.IterLemmas.{Spells-chars}
use Rattle.caseless.specs.CaseFold.{CaseFoldSteps}
use Rattle.caseless.proofs.CaselessLemmas.{Spells-CaseFold}
use Rattle.imap_text.specs.Folds.{folded_text}
use Rattle.imap_text.proofs.folding.fold_into.Goals as goal

pub returns : goal.returns
returns c =
    let spelt = Spells-CaseFold (c.default_case_fold.ensures.text _ (Spells-chars _ _ c.utf8.text c.chars.ensures.rest)) in
    subst (λ (front : List ℕ). OnOk c.extend.result (string_bytes c.extend.new.self ≡ front ++ folded_text c.args.text.now)) c.clear.ensures.bytes
    (items_from_extend {steps = CaseFoldSteps chars_steps} {P = λ (cs : List ℕ). string_bytes c.extend.new.self ≡ string_bytes c.clear.new.self ++ encode_utf8_all cs} {s = c.default_case_fold.result} c.extend.result c.extend.ensures.ran (record { runs = spelt }))
