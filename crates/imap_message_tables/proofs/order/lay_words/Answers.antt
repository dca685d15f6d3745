use Rattle.std.proofs.Common.{reverse, subst, sym, ap, ◌∙◌}
use Rattle.std.proofs.lemmas.List.{reverse-reverse}
use Rattle.imap_message_tables.specs.Joining.{word_key}
use Rattle.imap_message_tables.specs.Up.{AreUp}
use Rattle.imap_message_tables.proofs.Ordered.{up_from}
use Rattle.imap_message_tables.proofs.order.lay_words.Goals as goal

pub returns-clause-up : goal.returns-clause-up
returns-clause-up c =
    subst (AreUp word_key) (sym (ap reverse c.reverse.ensures.items ∙ reverse-reverse c.sort_words.new.words.items)) (up_from word_key c.sort_words.new.words.items c.sort_words.ensures.sorted)
