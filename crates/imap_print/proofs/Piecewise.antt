-- Text after pieces.
use Rattle.std.proofs.Common.{◌≡◌, ℕ, List, ◌++◌, sym, ap, ◌∙◌, append_assoc}
use Rattle.std.specs.List.{concat}

pub more_text : (done : List (List ℕ)) (text new more : List ℕ) → new ≡ text ++ more → concat done ++ new ≡ concat done ++ text ++ more
more_text done text new more e = ap (λ (t : List ℕ). concat done ++ t) e ∙ sym (append_assoc (concat done) text more)
