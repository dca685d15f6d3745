-- Patterns with each run of wildcards as one.
use Rattle.std.specs.Prelude.{◌≡◌, ℕ, ◌+◌, Bool, true, false, List, [], ◌∷◌, ◌++◌, if◌then◌else◌}
use Rattle.imap_names.specs.declared.condensed.Run.{Run}
use Rattle.imap_names.specs.declared.condensed.Run.TheVariants.{Empty, InLevel, Across}
use Rattle.imap_names.specs.declared.token.Token.{Token}
use Rattle.imap_names.specs.declared.token.Token.TheVariants.{Any, AnyInLevel, Octet}
use Rattle.imap_names.specs.MatchTest.{letters_match}

abbrev pub is_literal : Token → Bool
is_literal Any = false
is_literal AnyInLevel = false
is_literal (Octet octet) = true

-- how many tokens stand for one letter each
abbrev pub literals_of : List Token → ℕ
literals_of [] = 0
literals_of (token ∷ more) = (if is_literal token then 1 else 0) + literals_of more

-- one wildcard that stands for the run
abbrev pub run_tokens : Run → List Token
run_tokens Empty = []
run_tokens InLevel = AnyInLevel ∷ []
run_tokens Across = Any ∷ []

-- with the run after it, `new` matches as `old` does with its run and the token, whatever comes later
abbrev pub Adds : List Token → Run → Token → List Token → Run → Type 0
Adds old run token new next =
    (later : List Token) → letters_match (new ++ (run_tokens next ++ later)) ≡ letters_match (old ++ (run_tokens run ++ token ∷ later))

abbrev pub Ends : List Token → Run → List Token → Type 0
Ends old run new = new ≡ old ++ run_tokens run
