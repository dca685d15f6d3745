use Rattle.imap_stored_values.proofs.Words.{split_cut, split_words}
use Rattle.imap_stored_values.proofs.values.first_word.Goals as goal

pub returns-clause-words : goal.returns-clause-words
returns-clause-words c = split_words c.args.text.now c.split_once.result c.split_once.ensures.cases

pub returns-clause-cut : goal.returns-clause-cut
returns-clause-cut c = split_cut c.args.text.now c.split_once.result c.split_once.ensures.cases
