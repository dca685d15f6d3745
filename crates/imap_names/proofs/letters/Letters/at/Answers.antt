use Rattle.std.proofs.Common.{arith}
use Rattle.imap_names.proofs.LetterLaws.{view_length, at_from, at_before}
use Rattle.imap_names.proofs.letters.Letters.at.Goals as goal

pub bounds-self-inside-place : goal.bounds-self-inside-place
bounds-self-inside-place c =
    let l = view_length c.self.inside.begin c.self.inside.end c.self.inside.octets.now c.args.self.now c.self.view_is in
    omega (arith, l, c.requires)

pub returns-then-self-place : goal.returns-then-self-place
returns-then-self-place c = at_from c.args.place c.self.inside.begin c.self.inside.end c.self.inside.octets.now c.args.self.now c.self.view_is c.requires c.if-self-place.true

pub returns-else-self-place : goal.returns-else-self-place
returns-else-self-place c = at_before c.args.place c.self.inside.begin c.self.inside.end c.self.inside.octets.now c.args.self.now c.self.view_is c.requires c.if-self-place.false
