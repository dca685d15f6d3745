use Rattle.std.proofs.Common.{sym, subst, ◌≡◌, true}
use Rattle.imap_print.specs.Sets.{rise_above}
use Rattle.imap_session.proofs.Comparing.{gone_rises}
use Rattle.imap_session.proofs.plain_notices.expunge_notices.Goals as goal

pub vanished_lines-requires : goal.vanished_lines-requires
vanished_lines-requires c =
    subst (λ uids. rise_above 0 uids ≡ true) (sym c.in_ok-uids.ensures) (gone_rises c.args.known.now c.args.rows.now c.requires.uids)
