use Rattle.std.proofs.Common.{sym, ap, ◌∙◌, Some}
use Rattle.imap_mailbox.specs.Lent.{row_shown}
use Rattle.imap_targets.proofs.Named.{row_at, row_nowhere, row_within}
use Rattle.imap_targets.proofs.message_numbers.row_with.Goals as goal

pub get-requires : goal.get-requires
get-requires c = row_within c.args.uid c.args.rows.now c.in-Some.index (sym c.place_of.ensures ∙ c.in-Some.is)

pub returns-in-Some : goal.returns-in-Some
returns-in-Some c =
    let found = sym c.place_of.ensures ∙ c.in-Some.is in
    ap Some c.get.ensures ∙ sym (row_at c.args.uid c.args.rows.now c.in-Some.index (row_shown c.get.result) found)

pub returns-in-None : goal.returns-in-None
returns-in-None c = sym (row_nowhere c.args.uid c.args.rows.now (sym c.place_of.ensures ∙ c.in-None.is))
