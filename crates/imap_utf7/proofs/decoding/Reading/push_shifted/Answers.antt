use Rattle.std.proofs.lemmas.Bool.{ne_eqb}
use Rattle.imap_utf7.proofs.Pushes.{goes_on_end, goes_on_section}
use Rattle.imap_utf7.proofs.decoding.Reading.push_shifted.Goals as goal

pub returns-then-octet-ne45 : goal.returns-then-octet-ne45
returns-then-octet-ne45 c =
    goes_on_section c.args.octet c.args.self.now _ c.requires.shifted (ne_eqb c.args.octet 45 c.if-octet-ne45.true) c.in_ok-push.ensures.items

pub returns : goal.returns
returns c =
    goes_on_end c.args.octet c.args.self.now _ _ c.requires.shifted c.if-octet-ne45.false c.clear.ensures.items c.in_ok-end_section.ensures
