use Rattle.std.proofs.Common.{◌≡◌, sym, subst, ◌∙◌}
use Rattle.std.specs.Map.Iter.{deref_pair}
use Rattle.std.proofs.lemmas.Map.Iter.{rest_more, rest_all}
use Rattle.imap_user_map.proofs.Entries.{IsCopying, copying_all, copying_put, copying_none}
use Rattle.imap_user_map.proofs.user_map.copy_entries.Goals as goal

pub loop-user-init : goal.loop-user-init
loop-user-init g c =
    let start : c.into_iter-user-iterator.result ≡ c.args.entries.now.entries = c.into_iter-user-iterator.ensures.into_iter_gives ∙ c.iter-user-items.ensures.rest in
    subst (λ rest. IsCopying c.args.entries.now rest c.new-copy.result) (sym start) (copying_all c.args.entries.now c.new-copy.result c.new-copy.ensures.empty c.iter-user-items.ensures.found)

pub loop-user-preserved : goal.loop-user-preserved
loop-user-preserved g c =
    let here = rest_more deref_pair c.loop-user.user-iterator c.next.new.self c.next.result (c.in-Some.user, c.in-Some.value) c.in-Some.is c.next.ensures.steps in
    copying_put c.args.entries.now c.loop-user.user-iterator c.next.new.self c.in-Some.user.now c.in_ok-user.user c.in-Some.value.now c.in_ok-value.value
    c.loop-user.copy c.insert.new.self here (c.in_ok-user.ensures.ok ∙ c.as_str.ensures.value) c.in_ok-value.ensures
    c.in_ok-insert.ensures.updates c.loop-user.invariant

pub loop-user-preserved-in_ok-insert : goal.loop-user-preserved-in_ok-insert
loop-user-preserved-in_ok-insert g c =
    let here = rest_more deref_pair c.loop-user.user-iterator c.next.new.self c.next.result (c.in-Some.user, c.in-Some.value) c.in-Some.is c.next.ensures.steps in
    copying_put c.args.entries.now c.loop-user.user-iterator c.next.new.self c.in-Some.user.now c.in_ok-user.user c.in-Some.value.now c.in_ok-value.value
    c.loop-user.copy c.insert.new.self here (c.in_ok-user.ensures.ok ∙ c.as_str.ensures.value) c.in_ok-value.ensures
    c.in_ok-insert.ensures.updates c.loop-user.invariant

pub returns : goal.returns
returns g c =
    let none = rest_all deref_pair c.loop-user.user-iterator c.next.new.self c.next.result c.in-None.is c.next.ensures.steps in
    copying_none c.args.entries.now c.loop-user.copy (subst (λ rest. IsCopying c.args.entries.now rest c.loop-user.copy) none c.loop-user.invariant)
