use Rattle.std.proofs.Common.{◌≡◌, rules, ap, ◌∙◌}
use Rattle.imap_rights.specs.Effective.{granted, granted_by, owner_rights}
use Rattle.imap_rights.specs.Rights.{bits, union}
use Rattle.imap_rights.proofs.Owners.{of_another, of_owner}
use Rattle.imap_rights.proofs.acl.Acl.effective.Goals as goal

pub returns-then-eq : goal.returns-then-eq
returns-then-eq c =
    let user = c.args.user.now in
    let acl = c.args.self.now in
    let held : bits c.granted-granted.result ≡ granted user c.args.groups.now acl = c.granted-granted.ensures ∙ ap (λ groups. granted_by groups user acl) c.of.ensures in
    let both : bits c.union-then-eq.result ≡ union (bits c.granted-granted.result) owner_rights = search rules in
    both ∙ of_owner user c.args.owner.now c.args.groups.now acl (bits c.granted-granted.result) held (search rules)

pub returns-else-eq : goal.returns-else-eq
returns-else-eq c =
    let user = c.args.user.now in
    let acl = c.args.self.now in
    let held : bits c.granted-granted.result ≡ granted user c.args.groups.now acl = c.granted-granted.ensures ∙ ap (λ groups. granted_by groups user acl) c.of.ensures in
    of_another user c.args.owner.now c.args.groups.now acl (bits c.granted-granted.result) held (search rules)
