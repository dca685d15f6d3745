use Rattle.std.proofs.Common.{◌∙◌, ap, sym}
use Rattle.imap_mailbox.specs.Own.{Own, own_at}
use Rattle.imap_mailbox.specs.Summary.{latest, latest_seen}
use Rattle.imap_mailbox.specs.Held.{Held, lists}
use Rattle.imap_mailbox.proofs.Joined.{none_latest}
use Rattle.imap_mailbox.proofs.Keeping.{found_is, absent_is}
use Rattle.imap_mailbox.proofs.mailbox.Mailbox.seen_of.Goals as goal

pub returns-in-Some : goal.returns-in-Some
returns-in-Some c =
    c.is_seen.ensures
    ∙ ap (λ (l : Own). latest_seen (latest c.args.uid l)) (sym (found_is c.self.inside.own c.args.user.now c.get.result c.in-Some.own c.in-Some.is c.get.ensures))
    ∙ ap (λ (h : Held). latest_seen (latest c.args.uid (own_at (lists h.own) c.args.user.now))) c.self.view_is

pub returns-in-None : goal.returns-in-None
returns-in-None c =
    ap latest_seen (sym (none_latest c.args.uid)) ∙ ap (λ (l : Own). latest_seen (latest c.args.uid l)) (sym (absent_is c.self.inside.own c.args.user.now c.get.result c.in-None.is c.get.ensures))
    ∙ ap (λ (h : Held). latest_seen (latest c.args.uid (own_at (lists h.own) c.args.user.now))) c.self.view_is
