use Rattle.std.proofs.Common.{ℕ, List, [], ◌∷◌, ◌++◌, ap, ◌∙◌, append-nil}
use Rattle.std.specs.List.{concat}
use Rattle.std.proofs.lemmas.List.Folds.{concat-append}
use Rattle.imap_print.proofs.printing.pieces.push_piece.Goals as goal

pub returns : goal.returns
returns c =
    let old = c.args.pieces.now.items in
    ap concat c.in_ok-push.ensures.items ∙ concat-append old (c.args.piece ∷ []) ∙ ap (λ (t : List ℕ). concat old ++ t) (append-nil c.args.piece)
