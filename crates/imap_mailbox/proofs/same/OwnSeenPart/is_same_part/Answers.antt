use Rattle.std.proofs.Common.{◌≡◌, ◌↔◌, IsTrue, Option, sym, subst}
use Rattle.std.specs.Prelude.{option_and_then}
use Rattle.std.specs.Option.{option_copied}
use Rattle.std.specs.Borrow.{Bor}
use Rattle.imap_mailbox.specs.Owned.{Owned, if_any}
use Rattle.imap_mailbox.proofs.Values.{same_part, none_part}
use Rattle.imap_mailbox.proofs.same.OwnSeenPart.is_same_part.Goals as goal

pub returns-in-Some : goal.returns-in-Some
returns-in-Some c =
    subst (λ (o : Option (Bor Owned)). IsTrue c.has_same.result ↔ (if_any c.args.self.now.own ≡ option_and_then (λ (w : Owned). if_any w.own) (option_copied o))) (sym c.in-Some.is)
    (same_part c.args.self.now.own c.in-Some.other.now.own c.has_same.result c.has_same.ensures)

pub returns-in-None : goal.returns-in-None
returns-in-None c =
    subst (λ (o : Option (Bor Owned)). IsTrue c.is_empty.result ↔ (if_any c.args.self.now.own ≡ option_and_then (λ (w : Owned). if_any w.own) (option_copied o))) (sym c.in-None.is)
    (none_part c.args.self.now.own c.is_empty.result c.is_empty.ensures)
