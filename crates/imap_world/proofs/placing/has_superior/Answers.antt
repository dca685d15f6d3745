use Rattle.std.proofs.Common.{◌≡◌, rules, sym, ◌∙◌}
use Rattle.imap_world.specs.Kept.{superior_is_there}
use Rattle.imap_world.proofs.Contents.{superior_plain}
use Rattle.imap_world.proofs.placing.has_superior.Goals as goal

pub returns-in-Some : goal.returns-in-Some
returns-in-Some c =
    let there : c.is_some.result ≡ superior_is_there c.args.mailboxes.now.map c.args.name.now = search rules in
    there ∙ sym (superior_plain c.args.mailboxes.now.map c.args.name.now)
