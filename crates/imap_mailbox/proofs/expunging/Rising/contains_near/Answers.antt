use Rattle.std.proofs.Common.{◌∙◌, ap, sym, true, false}
use Rattle.std.specs.Result.{is_ok}
use Rattle.imap_mailbox.specs.Rows.{is_among}
use Rattle.imap_mailbox.proofs.ExpungedAll.{search_tells}
use Rattle.imap_mailbox.proofs.expunging.Rising.contains_near.Goals as goal

pub returns-in-Ok : goal.returns-in-Ok
returns-in-Ok c =
    search_tells c.self.inside.uids.now c.args.uid c.binary_search.result true c.self.invariant (ap is_ok (sym c.in-Ok.is)) c.binary_search.ensures.position
    ∙ ap (is_among c.args.uid) c.self.view_is

pub returns-in-Err : goal.returns-in-Err
returns-in-Err c =
    search_tells c.self.inside.uids.now c.args.uid c.binary_search.result false c.self.invariant (ap is_ok (sym c.in-Err.is)) c.binary_search.ensures.position
    ∙ ap (is_among c.args.uid) c.self.view_is
