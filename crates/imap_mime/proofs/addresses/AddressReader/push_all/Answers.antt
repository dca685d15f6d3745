use Rattle.imap_mime.proofs.Reading.{read_more}
use Rattle.imap_mime.proofs.addresses.AddressReader.push_all.Goals as goal

pub loop-octet-preserved : goal.loop-octet-preserved
loop-octet-preserved c =
    let at = c.loop-octet in
    read_more c.args.value.now at.octet-index at.self c.push.new.self at.done.items c.push.new.done.items _
    c.loop-octet-test.true at.invariant c.in_ok-push.ensures.state c.in_ok-push.ensures.done
