use Rattle.imap_user_map.specs.Rows.{Rows}
use Rattle.imap_hall.specs.Counts.{OwnCounts}
use Rattle.imap_hall.proofs.Users.{lent_counted}
use Rattle.imap_hall.proofs.counts.raise_count.Goals as goal

pub returns-in-Some : goal.returns-in-Some
returns-in-Some c =
    let new : Rows OwnCounts = c.get_mut.follows.lender c.raise.new.self in
    lent_counted c.args.counts.now new c.as_str.result.now c.in-Some.own c.raise.new.self c.get_mut.result c.in-Some.is c.get_mut.ensures.value (c.get_mut.follows.holds c.raise.new.self) c.args.who.now c.as_str.ensures.text c.raise.ensures
