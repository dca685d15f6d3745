use Rattle.std.proofs.Common.{◌≡◌, ap, ◌∙◌}
use Rattle.imap_rights.specs.Effective.{effective}
use Rattle.imap_rights.specs.Rights.{bits, has_any, read}
use Rattle.imap_upcoming.proofs.upcoming.may_read.Goals as goal

pub returns : goal.returns
returns c =
    let groups = c.args.groups.now in
    let acl = c.args.acl.now in
    let held : bits c.effective.result ≡ effective c.args.user.now c.args.owner.now groups acl =
    c.effective.ensures ∙ λ i. effective (c.as_str.ensures.text i) (c.as_str-2.ensures.text i) groups acl in
    c.has_any.ensures ∙ ap (λ rights. has_any rights read) held
