use Rattle.std.proofs.Common.{◌+◌, ◌∷◌}
use Rattle.std.specs.Prelude.{IsTrue, ◌↔◌}
use Rattle.imap_names.specs.declared.token.Token.TheVariants.{Any}
use Rattle.imap_names.specs.Pattern.{Matches}
use Rattle.imap_names.proofs.Walks.{on_rests, reaches_here}
use Rattle.imap_names.proofs.wildcards.match_letters.Goals as goal

pub returns-in-Reached : goal.returns-in-Reached
returns-in-Reached c =
    let answer = on_rests (λ ps xs. IsTrue c.match_after_any.result ↔ Matches (Any ∷ ps) xs) c.args.pattern.now c.args.text.now c.rest.result (c.in-Reached.token + 1) c.in-Reached.letter c.rest.ensures c.match_after_any.ensures in
    let same = reaches_here c.args.pattern.now c.in-Reached.token c.in-Reached.letter c.args.text.now c.in-Reached.ensures in
    (λ t. same.1 (answer.0 t), λ m. answer.1 (same.0 m))
