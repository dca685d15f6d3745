use Rattle.std.proofs.Common.{None, ap, sym}
use Rattle.std.proofs.lemmas.Bool.{cond-false}
use Rattle.imap_names.specs.Reading.{NameParts}
use Rattle.imap_names.proofs.Parts.{split_first}
use Rattle.imap_names.proofs.read.other_parts.Goals as goal

pub returns-in-None-clause-namespace : goal.returns-in-None-clause-namespace
returns-in-None-clause-namespace c =
    ap (λ (parts : NameParts). parts.namespace) (sym (cond-false _ _ _ (split_first c.args.rest.now None c.in-None.ensures.cases)))
