use Rattle.std.proofs.Common.{not, sym, ap, ◌∙◌}
use Rattle.imap_name_map.specs.Rows.{has_within}
use Rattle.imap_world.specs.Mailbox.{plain_all}
use Rattle.imap_world.specs.Stored.{Stored}
use Rattle.imap_world.proofs.Contents.{within_plain}
use Rattle.imap_world.proofs.world.World.is_free.Goals as goal

pub returns : goal.returns
returns c =
    c.is_free.ensures ∙ ap not (sym (within_plain c.args.name.now c.self.inside.mailboxes.map))
    ∙ ap (λ (s : Stored). not (has_within c.args.name.now (plain_all s.mailboxes.map))) c.self.view_is
