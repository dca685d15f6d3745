use Rattle.imap_world.proofs.Growing.{messages_grow}
use Rattle.imap_world.proofs.laws.messages_grow.Goals as goal

pub returns : goal.returns
returns c = messages_grow
