use Rattle.std.proofs.Common.{◌==◌, not, ap, ◌∙◌, rules}
use Rattle.std.proofs.lemmas.Fn.{filter_same}
use Rattle.imap_identifier_index.specs.Sets.{has_number}
use Rattle.imap_identifier_index.proofs.Entered.{others_left}
use Rattle.imap_identifier_index.proofs.numbers.remove_from.Goals as goal

pub returns : goal.returns
returns c = λ other.
    ap (has_number other) (filter_same _ (λ n. not (n == c.args.number)) _ (λ x b f' k. search rules) _ _ c.retain.ensures.filtered)
    ∙ others_left other c.args.number c.args.numbers.now.items
