use Rattle.std.proofs.Common.{List, map as map_list, sym, subst}
use Rattle.std.proofs.lemmas.Result.{IfOk-weaker}
use Rattle.imap_view.specs.Starts.{HaveAllSeen}
use Rattle.imap_view.specs.View.{View}
use Rattle.imap_view.proofs.Starting.{all_seen}
use Rattle.imap_world.specs.Indexed.{lists_of}
use Rattle.imap_world.specs.Stored.{world_of}
use Rattle.imap_view.proofs.view.View.starts.Goals as goal

pub returns : goal.returns
returns c =
    let world = world_of c.self.inside.world.now in
    subst (λ (v : View). HaveAllSeen v (map_list (λ name. name.now) c.in_ok-names_of.field-0.items)) c.self.view_is
    (all_seen c.self.inside.site.now c.self.inside.user.now world (map_list (λ name. name.now) c.in_ok-names_of.field-0.items)
    (λ text start. c.in_ok-names_of.ensures (lists_of world.mailboxes) text c.index-index.ensures start))
