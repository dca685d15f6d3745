use Rattle.std.proofs.Common.{subst}
use Rattle.imap_world.specs.Kept.{AreKept, IsSound}
use Rattle.imap_world.specs.Parts.{AreLists}
use Rattle.imap_world.specs.Stored.{world_of}
use Rattle.imap_restore.specs.Holding.{HasLists}
use Rattle.imap_restore.proofs.Made.{empty_kept, empty_sound, if_named, lists_of}
use Rattle.imap_restore.proofs.making.make_world.Goals as goal

pub returns-clause-ok : goal.returns-clause-ok
returns-clause-ok c =
    let w = world_of c.in-Ok.world in
    record {
      stands = c.in-Ok.ensures;
      sound = if_named (IsSound w) c.in_ok-name.name c.hand_on.ensures.sound (λ none. let e = c.in_ok-name.ensures none in empty_sound c.args.parts w c.in-Ok.ensures e.0 e.1);
      kept = if_named (AreKept w.mailboxes) c.in_ok-name.name c.hand_on.ensures.kept (λ none. let e = c.in_ok-name.ensures none in empty_kept c.args.parts w c.in-Ok.ensures e.0 e.1);
      lists = subst AreLists c.mailboxes.ensures (lists_of c.mailboxes.result.now.map (subst HasLists c.entries.ensures c.hand_on_lists.ensures));
    }
