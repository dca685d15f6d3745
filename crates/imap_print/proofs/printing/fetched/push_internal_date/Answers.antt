use Rattle.std.proofs.Common.{codes, ◌++◌}
use Rattle.imap_syntax.specs.WrittenDates.{date_time}
use Rattle.imap_print.proofs.Wording.{appended, goes_on_word}
use Rattle.imap_print.proofs.printing.fetched.push_internal_date.Goals as goal

pub returns-in_ok-push_date_time-in-Some : goal.returns-in_ok-push_date_time-in-Some
returns-in_ok-push_date_time-in-Some c =
    let spaced = c.push_space.new.out.items in
    let date = date_time.text c.in-Some.date in
    rw c.in-Some.is
    (goes_on_word c.args.out.now.items c.args.begun (codes "INTERNALDATE " ++ date) spaced _ c.in_ok-push_space-in-Some.ensures
    (appended spaced (codes "INTERNALDATE ") date c.in_ok-extend_from_slice-in-Some.ensures.items c.in_ok-push_date_time-in-Some.ensures))
