use Rattle.imap_identifier_index.proofs.Entered.{added_both}
use Rattle.imap_identifier_index.proofs.sets.add_all.Goals as goal

pub returns : goal.returns
returns c = λ done.
    added_both c.args.number c.args.entries.now c.args.root.now c.args.sets.now.map c.add.new.sets.map c.add_to_all.new.sets.map (c.add.ensures c.if-not-add.false) (c.add_to_all.ensures done)
