use Rattle.std.proofs.Common.{◌∙◌, ◌++◌, ◌∷◌, sym}
use Rattle.imap_syntax.proofs.KeywordOrder.{place_for}
use Rattle.imap_syntax.proofs.KeywordUnion.{around_there}
use Rattle.imap_syntax.proofs.keywords.split_around.Goals as goal

pub returns-in-Ok : goal.returns-in-Ok
returns-in-Ok c =
    around_there c.args.word.now c.args.words.now c.in-Ok.place (sym c.place_of.ensures.place ∙ c.in-Ok.is)
    ∙ (λ i. sym c.split_at.ensures.front i ++ c.args.word.now ∷ sym c.split_at-in-Ok.ensures.back i)

pub returns-in-Err : goal.returns-in-Err
returns-in-Err c =
    (place_for c.args.word.now c.args.words.now c.in-Err.place (sym c.place_of.ensures.place ∙ c.in-Err.is)).1
    ∙ (λ i. sym c.split_at-in-Err.ensures.front i ++ c.args.word.now ∷ sym c.split_at-in-Err.ensures.back i)
