use Rattle.std.proofs.Common.{ap, sym}
use Rattle.imap_names.specs.Reading.{NameParts}
use Rattle.imap_names.proofs.PrefixLaws.{parts_of-unprefixed}
use Rattle.imap_names.proofs.read.parts_of.Goals as goal

pub returns-in-None-clause-namespace : goal.returns-in-None-clause-namespace
returns-in-None-clause-namespace c =
    ap (λ (parts : NameParts). parts.namespace) (sym (parts_of-unprefixed c.args.text.now c.requires c.in_default.ensures.cases c.in-None.ensures.cases))

pub returns-in-None-clause-owner : goal.returns-in-None-clause-owner
returns-in-None-clause-owner c =
    ap (λ (parts : NameParts). parts.owner) (sym (parts_of-unprefixed c.args.text.now c.requires c.in_default.ensures.cases c.in-None.ensures.cases))

pub returns-in-None-clause-path : goal.returns-in-None-clause-path
returns-in-None-clause-path c =
    ap (λ (parts : NameParts). parts.path) (sym (parts_of-unprefixed c.args.text.now c.requires c.in_default.ensures.cases c.in-None.ensures.cases))
