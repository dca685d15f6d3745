use Rattle.std.proofs.Common.{rules, ◌∙◌}
use Rattle.imap_world.specs.Ready.{HasNameRoom}
use Rattle.imap_world.proofs.Room.{all_kept_at}
use Rattle.imap_world.proofs.subscriptions.make_room_for.Goals as goal

pub loop-write-preserved : goal.loop-write-preserved
loop-write-preserved c =
    let room : HasNameRoom c.make_room_for_one.new.subscriptions c.args.more c.write-item.result = search rules in
    record {
      sets = c.make_room_for_one.ensures.sets ∙ c.loop-write.invariant.sets;
      each = all_kept_at c.loop-write.subscriptions c.make_room_for_one.new.subscriptions c.make_room_for_one.ensures.room c.args.more c.args.writes.now
          c.loop-write.write-index c.write-item.result c.loop-write-test.true c.write-item.is c.loop-write.invariant.each room;
    }
