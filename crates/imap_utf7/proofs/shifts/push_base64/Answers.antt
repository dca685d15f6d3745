use Rattle.imap_utf7.proofs.Shifting.{writes_base64}
use Rattle.imap_utf7.proofs.shifts.push_base64.Goals as goal

pub returns : goal.returns
returns c = rw (← writes_base64 c.args.engine.now c.args.octets.now c.requires) c.encode_string.ensures.ok
