use Rattle.imap_identifier_index.proofs.Named.{put_at}
use Rattle.imap_identifier_index.proofs.names.put.Goals as goal

pub returns : goal.returns
returns c = λ other. put_at c.args.names.now.items c.args.place c.args.name c.requires other
