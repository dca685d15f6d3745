use Rattle.std.proofs.Common.{◌≡◌, drop, encode_utf8_all}
use Rattle.imap_utf7.specs.Reading.{all_read}
use Rattle.imap_utf7.specs.Spelling.{read}
use Rattle.imap_utf7.proofs.decoding.read.Given as goal

abbrev pub invariant-loop-octet : goal.invariant-loop-octet
invariant-loop-octet l = all_read l.reading (drop l.octet-index l.octets) ≡ encode_utf8_all (read l.fn.octets)
