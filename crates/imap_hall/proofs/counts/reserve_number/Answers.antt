use Rattle.std.proofs.Common.{◌≡◌, ◌∙◌, ℕ, List, Option, Some, OnOk, sym, ap, subst}
use Rattle.std.specs.FinMap as map
use Rattle.imap_user_map.specs.Rows.{Rows}
use Rattle.imap_hall.specs.Counts.{HasSessionIn, OwnCounts}
use Rattle.imap_hall.proofs.Users.{lent_same, lent_there}
use Rattle.imap_hall.proofs.counts.reserve_number.Goals as goal

pub returns-in-Some-clause-same : goal.returns-in-Some-clause-same
returns-in-Some-clause-same c =
    let new : Rows OwnCounts = c.get_mut.follows.lender c.reserve.new.self in
    lent_same c.args.counts.now new c.as_str.result.now c.in-Some.own c.reserve.new.self c.get_mut.result c.in-Some.is c.get_mut.ensures.value (c.get_mut.follows.holds c.reserve.new.self) c.reserve.ensures.same

pub returns-in-Some-clause-ok : goal.returns-in-Some-clause-ok
returns-in-Some-clause-ok c =
    let new : Rows OwnCounts = c.get_mut.follows.lender c.reserve.new.self in
    let number = c.args.who.now.number in
    let there : map.get new.map c.args.who.now.user ≡ Some c.reserve.new.self =
    ap (λ (user : List ℕ). map.get new.map user) (sym c.as_str.ensures.text)
    ∙ lent_there c.args.counts.now new c.as_str.result.now c.in-Some.own c.reserve.new.self c.get_mut.result c.in-Some.is c.get_mut.ensures.value (c.get_mut.follows.holds c.reserve.new.self) in
    subst (λ (o : Option OwnCounts). OnOk c.reserve.result (HasSessionIn o number)) (sym there) c.reserve.ensures.ok
