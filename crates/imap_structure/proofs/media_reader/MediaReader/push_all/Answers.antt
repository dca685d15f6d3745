use Rattle.imap_structure.proofs.Reading.{params_more, state_more}
use Rattle.imap_structure.proofs.media_reader.MediaReader.push_all.Goals as goal

pub loop-octet-preserved : goal.loop-octet-preserved
loop-octet-preserved c =
    let at = c.loop-octet in
    let octets = c.args.value.now in
    record {
      state = state_more octets at.octet-index at.self c.push.new.self _ c.loop-octet-test.true at.invariant.state c.in_ok-push.ensures.state;
      params = params_more octets at.octet-index at.self c.push.new.self at.params.items c.push.new.params.items _ c.loop-octet-test.true at.invariant.params c.in_ok-push.ensures.state c.in_ok-push.ensures.params;
    }
