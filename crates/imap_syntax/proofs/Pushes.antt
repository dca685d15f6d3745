-- Octets pushed one after another are pushed as one text.
use Rattle.std.proofs.Common.{◌≡◌, ℕ, List, ◌++◌, ap, ◌∙◌, append_assoc}

pub and_then : (o p q a b : List ℕ) → p ≡ o ++ a → q ≡ p ++ b → q ≡ o ++ (a ++ b)
and_then o p q a b e f = f ∙ ap (λ (x : List ℕ). x ++ b) e ∙ append_assoc o a b
