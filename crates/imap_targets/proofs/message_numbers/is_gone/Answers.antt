use Rattle.imap_targets.proofs.Named.{is_nowhere}
use Rattle.imap_targets.proofs.message_numbers.is_gone.Goals as goal

pub returns : goal.returns
returns c = is_nowhere c.args.message.now.uid c.args.rows.now c.place_of.result c.is_none.result c.place_of.ensures c.is_none.ensures
