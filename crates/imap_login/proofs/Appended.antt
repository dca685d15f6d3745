-- A text after another.
use Rattle.std.proofs.Common.{◌≡◌, ◌∙◌, ap, ℕ, List, ◌++◌}
use Rattle.std.proofs.lemmas.List.{append_assoc}

pub two_appended : (a b c m n : List ℕ) → m ≡ a ++ b → n ≡ m ++ c → n ≡ a ++ (b ++ c)
two_appended a b c m n e f = f ∙ ap (λ l. l ++ c) e ∙ append_assoc a b c
