use Rattle.std.proofs.Common.{◌≡◌, not, refl, rules}
use Rattle.imap_mailbox.specs.declared.message.Message.{Message}
use Rattle.imap_mailbox.specs.Rows.{is_among}
use Rattle.imap_mailbox.proofs.ExpungedAll.{filter_kept}
use Rattle.imap_mailbox.proofs.expunging.remove_messages.Goals as goal

pub returns-clause-items : goal.returns-clause-items
returns-clause-items c = filter_kept _ (λ p. p.0.now ≡ c.args.uids.now) (λ (k : Message). not (is_among k.uid c.args.uids.now)) (λ p x b q i h. search (rules, i)) _ _ _ refl c.retain.ensures.filtered
