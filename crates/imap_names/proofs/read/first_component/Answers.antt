use Rattle.std.proofs.Common.{[], Some, None, ap, ◌∙◌}
use Rattle.imap_names.specs.Text.{components_of}
use Rattle.imap_names.proofs.Parts.{split_first, components_of-front, components_of-whole}
use Rattle.imap_names.proofs.read.first_component.Goals as goal

pub returns-in-Some : goal.returns-in-Some
returns-in-Some c =
    let parts = split_first c.args.path.now (Some (c.in-Some.first, c.in-Some.field-0-1)) c.in-Some.ensures.cases in
    (components_of c.in-Some.field-0-1.now, ap components_of parts.0 ∙ components_of-front c.in-Some.first.now c.in-Some.field-0-1.now parts.1)

pub returns-in-None : goal.returns-in-None
returns-in-None c = ([], components_of-whole c.args.path.now (split_first c.args.path.now None c.in-None.ensures.cases))
