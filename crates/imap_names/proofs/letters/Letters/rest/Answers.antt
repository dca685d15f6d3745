use Rattle.std.proofs.Common.{arith, ◌∙◌}
use Rattle.imap_names.specs.Letters.{lettered}
use Rattle.imap_names.proofs.LetterLaws.{view_length, view_rest}
use Rattle.imap_names.proofs.letters.Letters.rest.Goals as goal

pub split_at-requires : goal.split_at-requires
split_at-requires c =
    let l = view_length c.self.inside.begin c.self.inside.end c.self.inside.octets.now c.args.self.now c.self.view_is in
    omega (arith, l, c.requires)

pub returns : goal.returns
returns c =
    (λ i. lettered (c.saturating_sub.ensures i) (c.saturating_sub-2.ensures i) (c.split_at.ensures.back i))
    ∙ view_rest c.args.place c.self.inside.begin c.self.inside.end c.self.inside.octets.now c.args.self.now c.self.view_is
