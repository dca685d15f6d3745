use Rattle.std.proofs.Common.{encode_utf8_all}
use Rattle.imap_utf7.specs.Spelling.{read}
use Rattle.imap_utf7.proofs.Pushes.{read_more}
use Rattle.imap_utf7.proofs.decoding.read.Goals as goal

pub loop-octet-preserved : goal.loop-octet-preserved
loop-octet-preserved c =
    read_more c.args.octets.now (encode_utf8_all (read c.args.octets.now)) c.loop-octet.octet-index c.loop-octet.reading c.push.new.self
    c.loop-octet-test.true c.loop-octet.invariant c.in_ok-push.ensures
