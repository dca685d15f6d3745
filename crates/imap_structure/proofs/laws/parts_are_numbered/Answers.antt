use Rattle.imap_structure.proofs.PartLaws.{structures_tell_parts, parts_are_pieces, messages_are_pieces}
use Rattle.imap_structure.proofs.laws.parts_are_numbered.Goals as goal

pub returns : goal.returns
returns c = record { told = structures_tell_parts; parts = parts_are_pieces; messages = messages_are_pieces }
