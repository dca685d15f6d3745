use Rattle.std.proofs.Common.{eqb, not, rules}
use Rattle.std.proofs.lemmas.Fn.{filter_same}
use Rattle.imap_mailbox.specs.declared.message.Message.{Message}
use Rattle.imap_mailbox.proofs.message.remove_message.Goals as goal

pub returns-clause-items : goal.returns-clause-items
returns-clause-items c = filter_same _ (λ (k : Message). not (eqb k.uid c.args.uid)) _ (λ x b f' h. search rules) _ _ c.retain.ensures.filtered
