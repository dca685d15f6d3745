use Rattle.std.proofs.Common.{◌≡◌, ℕ, List, Option, Some, sym, ap, subst, ◌∙◌}
use Rattle.std.specs.Prelude.{OnOk, option_and_then}
use Rattle.std.specs.FinMap as map
use Rattle.imap_user_map.specs.Rows.{Rows}
use Rattle.imap_sessions.specs.Held.{HasKnownRoom, HeldSession}
use Rattle.imap_sessions.specs.Sessions.{HeldOwn}
use Rattle.imap_sessions.proofs.Lent.{own_put, states_same}
use Rattle.imap_sessions.proofs.accounts.reserve_known.Goals as goal

pub returns-in-Some-clause-unchanged : goal.returns-in-Some-clause-unchanged
returns-in-Some-clause-unchanged c =
    let old : Rows HeldOwn = c.args.accounts.now in
    let new : Rows HeldOwn = c.get_mut.follows.lender c.reserve.new.self in
    states_same old c.as_str.result.now new c.in-Some.own c.reserve.new.self c.get_mut.result c.in-Some.is c.get_mut.ensures.value (c.get_mut.follows.holds c.reserve.new.self) c.reserve.ensures.unchanged

pub returns-in-Some-clause-ok : goal.returns-in-Some-clause-ok
returns-in-Some-clause-ok c =
    let old : Rows HeldOwn = c.args.accounts.now in
    let new : Rows HeldOwn = c.get_mut.follows.lender c.reserve.new.self in
    let number = c.args.who.now.number in
    let there : map.get new.map c.args.who.now.user ≡ Some c.reserve.new.self =
    ap (λ (user : List ℕ). map.get new.map user) (sym c.as_str.ensures.text)
    ∙ own_put old c.as_str.result.now new c.in-Some.own c.reserve.new.self c.get_mut.result c.in-Some.is c.get_mut.ensures.value (c.get_mut.follows.holds c.reserve.new.self) in
    subst (λ (o : Option HeldSession). OnOk c.reserve.result (HasKnownRoom c.args.more o))
    (sym (ap (option_and_then (λ (own : HeldOwn). map.get own number)) there)) c.reserve.ensures.ok
