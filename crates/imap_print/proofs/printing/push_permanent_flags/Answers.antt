use Rattle.std.proofs.Common.{codes, ◌++◌}
use Rattle.imap_print.specs.Flags.{permanent_text}
use Rattle.imap_print.proofs.Wording.{appended}
use Rattle.imap_print.proofs.printing.push_permanent_flags.Goals as goal

pub returns : goal.returns
returns c =
    let out = c.args.out.now.items in
    let front = codes "* OK [PERMANENTFLAGS " in
    let flags = permanent_text c.args.flags.now c.args.any in
    appended out (front ++ flags) (codes "] flags kept") (appended out front flags c.in_ok-extend_from_slice.ensures.items c.in_ok-push_permanent.ensures)
    c.in_ok-extend_from_slice-2.ensures.items
