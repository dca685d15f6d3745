use Rattle.std.proofs.Common.{codes, ◌++◌}
use Rattle.imap_print.specs.Words.{given}
use Rattle.imap_print.specs.Flags.{flag_words}
use Rattle.imap_print.proofs.Wording.{goes_on-append, enclosed}
use Rattle.imap_print.proofs.printing.flags.push_permanent.Goals as goal

pub returns : goal.returns
returns c =
    enclosed c.args.out.now.items _ _ (flag_words c.args.flags.now ++ given c.args.any (codes "\\*")) _ _ c.in_ok-push.ensures.items
    (goes_on-append c.in_ok-begun.ensures c.in_ok-push_given.ensures) c.in_ok-push-2.ensures.items
