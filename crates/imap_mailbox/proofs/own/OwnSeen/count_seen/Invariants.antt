use Rattle.std.proofs.Common.{◌≡◌, ◌+◌, ◌≤◌, drop}
use Rattle.std.specs.Prelude.{count_by}
use Rattle.imap_mailbox.specs.declared.message.GoneMessage.{GoneMessage}
use Rattle.imap_mailbox.specs.Summary.{latest, latest_seen}
use Rattle.imap_mailbox.proofs.own.OwnSeen.count_seen.Given as goal

abbrev pub invariant-loop-message : goal.invariant-loop-message
invariant-loop-message l = record {
  most : l.count ≤ l.message-index;
  total : l.count + count_by (λ (g : GoneMessage). latest_seen (latest g.uid l.self.own)) (drop l.message-index l.gone)
      ≡ count_by (λ (g : GoneMessage). latest_seen (latest g.uid l.self.own)) l.gone;
}
