use Rattle.imap_mime.proofs.Ascii.{tested}
use Rattle.imap_mime.proofs.strings.are_ascii.Goals as goal

pub returns : goal.returns
returns c = tested c.args.octets.now c.is_ascii.result c.is_ascii.ensures.cases
