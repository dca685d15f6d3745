use Rattle.std.proofs.Common.{sym, ap, ◌∙◌}
use Rattle.std.specs.Option.{option_copied}
use Rattle.imap_rights.specs.Groups.{groups_of}
use Rattle.imap_rights.proofs.Members.{groups_absent, groups_there}
use Rattle.imap_rights.proofs.groups.Groups.names_of.Goals as goal

pub returns-in-Some : goal.returns-in-Some
returns-in-Some c =
    sym (groups_there c.self.inside.members c.args.user.now c.in-Some.groups.now (sym c.get.ensures ∙ ap option_copied c.in-Some.is))
    ∙ ap (λ members. groups_of members c.args.user.now) c.self.view_is

pub returns-in-None : goal.returns-in-None
returns-in-None c =
    c.self.invariant ∙ sym (groups_absent c.self.inside.members c.args.user.now (sym c.get.ensures ∙ ap option_copied c.in-None.is))
    ∙ ap (λ members. groups_of members c.args.user.now) c.self.view_is
