use Rattle.std.proofs.Common.{◌∙◌, get_or, ap, sym}
use Rattle.std.proofs.lemmas.Bool.{eqb-true}
use Rattle.imap_mailbox.specs.Rows.{is_among}
use Rattle.imap_mailbox.proofs.ExpungedAll.{among_at}
use Rattle.imap_mailbox.proofs.expunging.Rising.is_at.Goals as goal

pub returns-then-place-self : goal.returns-then-place-self
returns-then-place-self c = λ is.
    let uids = c.self.inside.uids.now in
    ap (is_among c.args.uid) (sym c.self.view_is) ∙ among_at c.args.uid uids c.args.place c.if-place-self.true (eqb-true (get_or uids c.args.place 0) c.args.uid is)
