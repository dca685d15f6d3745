use Rattle.std.proofs.Common.{◌≡◌, ◌+◌, ◌≤◌, Some, sym, ap, ◌∙◌, arith}
use Rattle.std.specs.Option.{option_copied_mut}
use Rattle.std.specs.FinMap as map
use Rattle.imap_user_map.specs.Rows.{with_value}
use Rattle.imap_world.proofs.Room.{of_some, put_leaves, room_of}
use Rattle.imap_world.proofs.Sets.{filled_changed}
use Rattle.imap_world.proofs.subscriptions.add_name.Goals as goal

pub returns-in-Some-clause-sets : goal.returns-in-Some-clause-sets
returns-in-Some-clause-sets c =
    let old = c.args.subscriptions.now in
    let there : map.get old.map c.args.user.now ≡ Some c.in-Some.names.now = sym c.get_mut.ensures.value ∙ ap option_copied_mut c.in-Some.is in
    let is : c.get_mut.follows.lender c.insert_reserved.new.self ≡ with_value old c.args.user.now c.insert_reserved.new.self = of_some _ _ c.in-Some.is (c.get_mut.follows.holds c.insert_reserved.new.self) in
    filled_changed (λ names. map.insert names c.args.name tt) old (c.get_mut.follows.lender c.insert_reserved.new.self) c.args.user.now c.in-Some.names.now c.insert_reserved.new.self there (ap (λ r. r.map) is) c.insert_reserved.ensures.map

pub returns-in-Some-clause-room : goal.returns-in-Some-clause-room
returns-in-Some-clause-room c =
    let old = c.args.subscriptions.now in
    let there : map.get old.map c.args.user.now ≡ Some c.in-Some.names.now = sym c.get_mut.ensures.value ∙ ap option_copied_mut c.in-Some.is in
    let is : c.get_mut.follows.lender c.insert_reserved.new.self ≡ with_value old c.args.user.now c.insert_reserved.new.self = of_some _ _ c.in-Some.is (c.get_mut.follows.holds c.insert_reserved.new.self) in
    put_leaves old (c.get_mut.follows.lender c.insert_reserved.new.self) c.args.user.now c.insert_reserved.new.self (ap (λ r. r.map) is)
    (λ more h. let had : more + 1 ≤ c.in-Some.names.now.spare = room_of (map.get old.map c.args.user.now) c.in-Some.names.now (more + 1) there h in omega (arith, had, c.insert_reserved.ensures.spare))
