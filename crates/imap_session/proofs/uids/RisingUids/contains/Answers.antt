use Rattle.std.proofs.Common.{◌∙◌, ap}
use Rattle.imap_mailbox.specs.Rows.{is_among}
use Rattle.imap_mailbox.proofs.ExpungedAll.{search_tells}
use Rattle.imap_session.proofs.uids.RisingUids.contains.Goals as goal

pub returns : goal.returns
returns c =
    search_tells c.self.inside.uids.now c.args.uid c.binary_search.result c.is_ok.result c.self.invariant c.is_ok.ensures.value c.binary_search.ensures.position
    ∙ ap (is_among c.args.uid) c.self.view_is
