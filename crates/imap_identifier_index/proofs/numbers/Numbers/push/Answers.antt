use Rattle.std.proofs.Common.{ℕ, List, ◌||◌, eqb, ap, ◌∙◌}
use Rattle.imap_identifier_index.specs.Sets.{has_number}
use Rattle.imap_identifier_index.proofs.Entered.{once_more, one_more}
use Rattle.imap_identifier_index.proofs.numbers.Numbers.push.Goals as goal

pub returns-then-is_last : goal.returns-then-is_last
returns-then-is_last c = λ done. once_more c.args.number c.args.self.now (c.is_last.ensures c.if-is_last.true)

pub returns : goal.returns
returns c = λ done other.
    ap (has_number other) c.push_reserved.ensures.items ∙ one_more other c.args.number c.self.inside.numbers.items
    ∙ ap (λ (l : List ℕ). eqb other c.args.number || has_number other l) c.self.view_is
