use Rattle.std.proofs.Common.{◌∙◌, is_some, ap}
use Rattle.imap_changes.proofs.Taken.{known_is_among}
use Rattle.imap_changes.proofs.expunge.knows.Goals as goal

pub returns : goal.returns
returns c = c.is_some.ensures ∙ ap is_some c.place_of.ensures ∙ known_is_among c.args.uid c.args.known.now.list
