-- What stands before a delimiter of a text without CR and LF has neither.
use Rattle.std.proofs.Common.{ℕ, List, ◌∷◌, ◌++◌, sym, ◌∙◌}
use Rattle.std.specs.List.{list_all}
use Rattle.std.proofs.lemmas.Bool.{and_parts}
use Rattle.std.proofs.lemmas.List.Folds.{list_all-append}
use Rattle.imap_answer.specs.Lines.{IsPlain, is_plain}

pub plain_front : (front rest : List ℕ) → IsPlain (front ++ 47 ∷ rest) → IsPlain front
plain_front front rest plain = (and_parts (list_all is_plain front) (list_all is_plain (47 ∷ rest)) (sym (list_all-append is_plain front (47 ∷ rest)) ∙ plain)).0
