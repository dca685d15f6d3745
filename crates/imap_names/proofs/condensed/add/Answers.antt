use Rattle.std.proofs.Common.{◌++◌, ◌∷◌, sym, ap, ◌∙◌}
use Rattle.imap_names.specs.Condensed.{run_tokens}
use Rattle.imap_names.specs.MatchTest.{letters_match}
use Rattle.imap_names.proofs.CondensedLaws.{adds_any, adds_level, adds_level_across, adds_level_first}
use Rattle.imap_names.proofs.condensed.add.Goals as goal

pub returns-in-Any : goal.returns-in-Any
returns-in-Any c = λ later.
    adds_any c.args.condensed.now.items c.args.run later
    ∙ ap (λ t. letters_match (c.args.condensed.now.items ++ (run_tokens c.args.run ++ t ∷ later))) (sym c.in-Any.is)

pub returns-in-InLevel : goal.returns-in-InLevel
returns-in-InLevel c = λ later.
    adds_level c.args.condensed.now.items later
    ∙ (λ i. letters_match (c.args.condensed.now.items ++ (run_tokens (sym c.in-InLevel.is i) ++ sym c.in-AnyInLevel.is i ∷ later)))

pub returns-in-Across : goal.returns-in-Across
returns-in-Across c = λ later.
    adds_level_across c.args.condensed.now.items later
    ∙ (λ i. letters_match (c.args.condensed.now.items ++ (run_tokens (sym c.in-Across.is i) ++ sym c.in-AnyInLevel.is i ∷ later)))
