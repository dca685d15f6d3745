use Rattle.imap_name_map.proofs.Turns.{turned_right}
use Rattle.imap_name_map.proofs.moves.from_back.Goals as goal

pub returns-clause-items : goal.returns-clause-items
returns-clause-items g c = turned_right c.args.entries.now c.rotate_right.new.self c.args.place c.args.count c.requires c.rotate_right.ensures.after
