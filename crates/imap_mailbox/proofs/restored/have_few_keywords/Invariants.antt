use Rattle.std.proofs.Common.{drop}
use Rattle.std.specs.Prelude.{◌↔◌}
use Rattle.imap_mailbox.specs.Held.{HaveFewKeywords}
use Rattle.imap_mailbox.proofs.restored.have_few_keywords.Given as goal

abbrev pub invariant-loop-message : goal.invariant-loop-message
invariant-loop-message l = HaveFewKeywords (drop l.message-index l.messages) ↔ HaveFewKeywords l.messages
