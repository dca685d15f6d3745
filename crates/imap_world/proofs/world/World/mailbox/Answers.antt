use Rattle.std.proofs.Common.{ap, ◌∙◌}
use Rattle.std.specs.FinMap as map
use Rattle.imap_world.specs.Mailbox.{plain_all}
use Rattle.imap_world.specs.Stored.{Stored}
use Rattle.imap_world.proofs.Contents.{lent_plain}
use Rattle.imap_world.proofs.world.World.mailbox.Goals as goal

pub returns-clause-there : goal.returns-clause-there
returns-clause-there c =
    lent_plain c.self.inside.mailboxes.map c.args.name.now c.get.result c.get.ensures
    ∙ ap (λ (s : Stored). map.get (plain_all s.mailboxes.map) c.args.name.now) c.self.view_is
