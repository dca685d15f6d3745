use Rattle.imap_text.proofs.Cuts.{header-text}
use Rattle.imap_text.proofs.laws.header_and_text.Goals as goal

pub returns : goal.returns
returns c = header-text
