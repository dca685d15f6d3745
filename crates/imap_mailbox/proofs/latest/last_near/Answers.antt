use Rattle.std.proofs.Common.{sym}
use Rattle.imap_mailbox.proofs.TableOfLast.{found_at, missed}
use Rattle.imap_mailbox.proofs.latest.last_near.Goals as goal

pub returns-in-Ok : goal.returns-in-Ok
returns-in-Ok c = sym (found_at c.args.uid c.args.table.now c.in-Ok.place _ c.in-Ok.ensures)

pub returns-in-Err : goal.returns-in-Err
returns-in-Err c = sym (missed c.args.uid c.requires.0 c.requires.1 c.args.table.now c.in-Err.place c.requires.2 c.in-Err.ensures)
