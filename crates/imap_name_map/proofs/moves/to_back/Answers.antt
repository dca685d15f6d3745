use Rattle.imap_name_map.proofs.Turns.{turned_left}
use Rattle.imap_name_map.proofs.moves.to_back.Goals as goal

pub returns-clause-items : goal.returns-clause-items
returns-clause-items g c = turned_left c.args.entries.now c.rotate_left.new.self c.args.start c.args.end c.requires.order c.requires.within c.rotate_left.ensures.after
