use Rattle.std.proofs.Common.{Some, None, ap, sym, subst, ◌∙◌}
use Rattle.imap_names.specs.Name.{name_of, superior}
use Rattle.imap_names.specs.Text.{components_of}
use Rattle.imap_names.specs.Valid.{IsName}
use Rattle.imap_names.proofs.FrontLaws.{split_last}
use Rattle.imap_names.proofs.SuperiorLaws.{superior-joined, superior-whole, IsName-front}
use Rattle.imap_names.proofs.name_ref.NameRef.superior.Goals as goal

pub invariant_of-result : goal.invariant_of-result
invariant_of-result c =
    let parts = split_last c.self.inside.path.now (Some (c.in-Some.above, c.in-Some.field-0-1)) c.in-Some.ensures.cases in
    IsName-front c.self.inside.root.now c.in-Some.above.now c.in-Some.field-0-1.now
    (subst (λ z. IsName (name_of c.self.inside.root.now (components_of z))) parts.0 c.self.invariant)

pub returns-in-Some : goal.returns-in-Some
returns-in-Some c =
    let parts = split_last c.self.inside.path.now (Some (c.in-Some.above, c.in-Some.field-0-1)) c.in-Some.ensures.cases in
    sym (superior-joined c.self.inside.root.now c.in-Some.above.now c.in-Some.field-0-1.now parts.1)
    ∙ ap (λ z. superior (name_of c.self.inside.root.now (components_of z))) (sym parts.0) ∙ ap superior c.self.view_is

pub returns-in-None : goal.returns-in-None
returns-in-None c =
    sym (superior-whole c.self.inside.root.now c.self.inside.path.now (split_last c.self.inside.path.now None c.in-None.ensures.cases))
    ∙ ap superior c.self.view_is
