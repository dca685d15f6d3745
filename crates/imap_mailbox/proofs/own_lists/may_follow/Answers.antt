use Rattle.std.proofs.Common.{◌≡◌, ap, refl, subst, ◌∙◌}
use Rattle.imap_mailbox.specs.Held.{list_at}
use Rattle.imap_mailbox.specs.Own.{no_own}
use Rattle.imap_mailbox.specs.UserChange.{UserChange}
use Rattle.imap_mailbox.proofs.Keeping.{absent_is, found_is}
use Rattle.imap_mailbox.proofs.OwnChanges.{next_is, not_next}
use Rattle.imap_mailbox.proofs.own_lists.may_follow.Goals as goal

pub returns-then-may_follow : goal.returns-then-may_follow
returns-then-may_follow c =
    let user = c.as_str.ensures.value ∙ ap (λ (u : UserChange). u.user) c.change.view_is in
    let same = subst (λ u. list_at c.args.own.now u ≡ c.in-Some.list.now.own) user (found_is c.args.own.now c.as_str.result.now c.get.result c.in-Some.list c.in-Some.is c.get.ensures) in
    next_is (list_at c.args.own.now c.args.change.now.user) c.in-Some.list.now.own c.args.change.now c.args.next c.args.shared c.len.result c.change.inside.change.before c.is_next.result
    same c.len.ensures.len (ap (λ (u : UserChange). u.change.before) c.change.view_is) (c.may_follow.ensures.0 c.if-may_follow.true) c.is_next.ensures

pub returns-else-may_follow : goal.returns-else-may_follow
returns-else-may_follow c =
    let user = c.as_str.ensures.value ∙ ap (λ (u : UserChange). u.user) c.change.view_is in
    let same = subst (λ u. list_at c.args.own.now u ≡ c.in-Some.list.now.own) user (found_is c.args.own.now c.as_str.result.now c.get.result c.in-Some.list c.in-Some.is c.get.ensures) in
    not_next (list_at c.args.own.now c.args.change.now.user) c.in-Some.list.now.own c.args.change.now c.args.next c.args.shared c.change.inside.change.before c.may_follow.result
    same (ap (λ (u : UserChange). u.change.before) c.change.view_is) c.if-may_follow.false c.may_follow.ensures

pub returns-in-None : goal.returns-in-None
returns-in-None c =
    let user = c.as_str.ensures.value ∙ ap (λ (u : UserChange). u.user) c.change.view_is in
    let same = subst (λ u. list_at c.args.own.now u ≡ no_own) user (absent_is c.args.own.now c.as_str.result.now c.get.result c.in-None.is c.get.ensures) in
    next_is (list_at c.args.own.now c.args.change.now.user) no_own c.args.change.now c.args.next c.args.shared 0 c.args.change.now.change.before c.is_next-in-None.result
    same refl refl tt c.is_next-in-None.ensures
