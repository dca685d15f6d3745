use Rattle.std.proofs.Common.{true}
use Rattle.imap_identifier_index.proofs.Whole.{none}
use Rattle.imap_identifier_index.proofs.identifier_index.IdentifierIndex.new.Goals as goal

pub returns : goal.returns
returns c = none (record { names = c.new.result.items; sets = c.new-3.result.map; is_whole = true }) c.new.ensures.items c.new-3.ensures
