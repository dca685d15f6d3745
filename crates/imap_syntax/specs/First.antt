-- A choice that the first octet makes.
use Rattle.std.specs.Prelude.{◌≡◌, ℕ, Bool, true, false, cond, ◌⊎◌, List, [], ◌∷◌}
use Rattle.imap_syntax.specs.Rule.{Rule}

-- there is a first octet, and it passes the test
abbrev pub begins : (ℕ → Bool) → List ℕ → Bool
begins test [] = false
begins test (b ∷ text) = test b

-- a text of p that begins with an octet of the test, or a text of q that doesn't
abbrev pub by_first : {A : Type 0} → (ℕ → Bool) → Rule A → Rule A → Rule A
by_first test p q = record {
  spells = λ a text.
      ((begins test text ≡ true) × p.spells a text) ⊎ ((begins test text ≡ false) × q.spells a text);
  read = λ input. cond (begins test input) (p.read input) (q.read input);
}
