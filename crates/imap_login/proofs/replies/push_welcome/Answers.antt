use Rattle.std.proofs.Common.{◌++◌}
use Rattle.std.specs.Prelude.{codes}
use Rattle.imap_login.proofs.Appended.{two_appended}
use Rattle.imap_login.proofs.replies.push_welcome.Goals as goal

pub returns : goal.returns
returns c =
    two_appended c.args.out.now.items c.args.tag.now (codes " OK [CAPABILITY " ++ c.args.capabilities.now ++ codes "] done\r\n") _ _
    c.in_ok-extend_from_slice.ensures.items c.in_ok-push_between.ensures
