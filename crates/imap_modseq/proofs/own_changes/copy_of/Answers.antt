use Rattle.std.proofs.Common.{◌≡◌, ap, sym, subst, ◌∙◌, rules}
use Rattle.std.specs.Map.Iter.{deref_pair}
use Rattle.std.proofs.lemmas.Map.Iter.{rest_more, rest_all}
use Rattle.imap_modseq.specs.Runs.{Owned}
use Rattle.imap_modseq.specs.Clocks.{by_octets}
use Rattle.imap_modseq.proofs.Copying.{IsCopying, copying_all, copying_put, copying_none}
use Rattle.imap_modseq.proofs.own_changes.copy_of.Goals as goal

pub loop-user-init : goal.loop-user-init
loop-user-init c =
    let start : c.into_iter-user-iterator.result ≡ c.args.runs.now.entries = search rules in
    subst (λ rest. IsCopying c.args.runs.now.entries rest (by_octets c.new-copy.result.entries)) (sym start)
    (copying_all c.args.runs.now.entries (by_octets c.new-copy.result.entries) (ap by_octets c.new-copy.ensures.empty) c.iter-user-items.ensures.ordered)

pub loop-user-preserved : goal.loop-user-preserved
loop-user-preserved c =
    let here = rest_more deref_pair c.loop-user.user-iterator c.next.new.self c.next.result (c.in-Some.user, c.in-Some.own) c.in-Some.is c.next.ensures.steps in
    copying_put c.args.runs.now.entries c.loop-user.user-iterator c.next.new.self c.in-Some.user.now c.in_ok-name.name c.in-Some.own.now c.in_ok-list.list
    c.loop-user.copy c.insert.new.self here (c.in_ok-name.ensures.ok ∙ c.as_str.ensures.value) (ap (λ (o : Owned). o.befores) c.in_ok-list.ensures)
    c.in_ok-insert.ensures.updates c.loop-user.invariant

pub loop-user-preserved-in_ok-insert : goal.loop-user-preserved-in_ok-insert
loop-user-preserved-in_ok-insert c =
    let here = rest_more deref_pair c.loop-user.user-iterator c.next.new.self c.next.result (c.in-Some.user, c.in-Some.own) c.in-Some.is c.next.ensures.steps in
    copying_put c.args.runs.now.entries c.loop-user.user-iterator c.next.new.self c.in-Some.user.now c.in_ok-name.name c.in-Some.own.now c.in_ok-list.list
    c.loop-user.copy c.insert.new.self here (c.in_ok-name.ensures.ok ∙ c.as_str.ensures.value) (ap (λ (o : Owned). o.befores) c.in_ok-list.ensures)
    c.in_ok-insert.ensures.updates c.loop-user.invariant

pub returns : goal.returns
returns c =
    let none = rest_all deref_pair c.loop-user.user-iterator c.next.new.self c.next.result c.in-None.is c.next.ensures.steps in
    copying_none c.args.runs.now.entries (by_octets c.loop-user.copy.entries)
    (subst (λ rest. IsCopying c.args.runs.now.entries rest (by_octets c.loop-user.copy.entries)) none c.loop-user.invariant)
