use Rattle.std.proofs.Common.{◌∙◌, [], ◌∷◌, ◌++◌, ap, sym}
use Rattle.std.specs.FinMap.{get-empty}
use Rattle.std.specs.Ordering.{nat_cmp}
use Rattle.imap_mailbox.specs.KeptRows.{dropped_for, place_if_free}
use Rattle.imap_mailbox.specs.Own.{no_own, own_at}
use Rattle.imap_mailbox.specs.Held.{Held, lists}
use Rattle.imap_mailbox.proofs.Keeping.{found_is, absent_is}
use Rattle.imap_mailbox.proofs.mailbox.Mailbox.dropped_by.Goals as goal

pub returns-in-Some : goal.returns-in-Some
returns-in-Some c =
    c.dropped_by.ensures
    ∙ ap (dropped_for c.args.uid c.args.before) (sym (found_is c.self.inside.own c.args.user.now c.get.result c.in-Some.own c.in-Some.is c.get.ensures))
    ∙ ap (λ (h : Held). dropped_for c.args.uid c.args.before (own_at (lists h.own) c.args.user.now)) c.self.view_is

pub returns-in-None : goal.returns-in-None
returns-in-None c =
    sym (ap (place_if_free (no_own.befores ++ c.args.before ∷ [])) (get-empty nat_cmp c.args.uid))
    ∙ ap (dropped_for c.args.uid c.args.before) (sym (absent_is c.self.inside.own c.args.user.now c.get.result c.in-None.is c.get.ensures))
    ∙ ap (λ (h : Held). dropped_for c.args.uid c.args.before (own_at (lists h.own) c.args.user.now)) c.self.view_is
