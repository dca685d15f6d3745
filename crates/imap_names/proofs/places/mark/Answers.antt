use Rattle.std.proofs.Common.{arith}
use Rattle.imap_names.proofs.MarkLaws.{adds_mark}
use Rattle.imap_names.proofs.places.mark.Goals as goal

pub returns : goal.returns
returns c = adds_mark c.args.octets.now c.args.octet c.args.n (omega (arith, c.told-octets, c.ranges.octet.fits)) c.requires
