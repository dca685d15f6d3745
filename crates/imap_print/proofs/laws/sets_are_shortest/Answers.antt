use Rattle.imap_print.proofs.Fewest.{runs_have_the_numbers, runs_are_fewest}
use Rattle.imap_print.proofs.laws.sets_are_shortest.Goals as goal

pub returns : goal.returns
returns c = record {
  numbers = runs_have_the_numbers c.args.set.now;
  fewest = runs_are_fewest c.args.set.now c.as_slice.ensures.valid;
}
