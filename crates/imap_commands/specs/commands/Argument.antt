-- An argument: SP astring (RFC 9051, section 9).
use Rattle.std.specs.Prelude.{ℕ, List, ◌∷◌}
use Rattle.imap_syntax.specs.Rule.{Rule, ◌>>◌}
use Rattle.imap_syntax.specs.Lexical.{space, astring}
use Rattle.imap_syntax.specs.Written as written

abbrev pub argument : Rule (List ℕ)
argument = do
  space
  astring

abbrev pub argument_text : List ℕ → List ℕ
argument_text octets = 32 ∷ written.astring.text octets
