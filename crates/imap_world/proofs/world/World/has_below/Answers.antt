use Rattle.std.proofs.Common.{sym, ap, ◌∙◌}
use Rattle.imap_name_map.specs.Rows.{has_below}
use Rattle.imap_world.specs.Mailbox.{plain_all}
use Rattle.imap_world.specs.Stored.{Stored}
use Rattle.imap_world.proofs.Contents.{below_plain}
use Rattle.imap_world.proofs.world.World.has_below.Goals as goal

pub returns : goal.returns
returns c =
    c.has_below.ensures ∙ sym (below_plain c.args.name.now c.self.inside.mailboxes.map)
    ∙ ap (λ (s : Stored). has_below c.args.name.now (plain_all s.mailboxes.map)) c.self.view_is
