use Rattle.std.proofs.Common.{◌<◌, length, sym, ◌∙◌, arith}
use Rattle.imap_mailbox.specs.Lent.{row_uids}
use Rattle.imap_mailbox.proofs.Finding.{inside}
use Rattle.imap_mailbox.proofs.FirstOf.{count, first_absent, first_not_there, first_there}
use Rattle.imap_mailbox.proofs.last_events.first_with.Goals as goal

pub is_above_in-requires : goal.is_above_in-requires
is_above_in-requires c =
    let there = sym c.place_of.ensures ∙ c.in-Some.is in
    omega (arith, inside c.args.uid (row_uids c.args.rows.now) c.in-Some.place there, count c.args.rows.now)

pub returns-then-is_above_in : goal.returns-then-is_above_in
returns-then-is_above_in c =
    let rows = c.args.rows.now in
    let there = sym c.place_of.ensures ∙ c.in-Some.is in
    let lt : c.in-Some.place < length rows = omega (arith, inside c.args.uid (row_uids rows) c.in-Some.place there, count rows) in
    first_there c.args.uid c.args.number c.args.start c.args.end c.in-Some.place rows c.requires.rising c.requires.order c.requires.within there lt
    (λ r at. sym c.if-is_above_in.true ∙ c.is_above_in.ensures r at)

pub returns-else-is_above_in : goal.returns-else-is_above_in
returns-else-is_above_in c =
    let rows = c.args.rows.now in
    let there = sym c.place_of.ensures ∙ c.in-Some.is in
    let lt : c.in-Some.place < length rows = omega (arith, inside c.args.uid (row_uids rows) c.in-Some.place there, count rows) in
    first_not_there c.args.uid c.args.number c.args.start c.args.end c.in-Some.place rows c.requires.rising c.requires.order c.requires.within there lt
    (λ r at. sym c.if-is_above_in.false ∙ c.is_above_in.ensures r at)

pub returns-in-None : goal.returns-in-None
returns-in-None c = first_absent c.args.uid c.args.number c.args.start c.args.end c.args.rows.now c.requires.order c.requires.within (sym c.place_of.ensures ∙ c.in-None.is)
