use Rattle.std.proofs.Common.{◌≡◌, ◌≤◌, Some, sym, ap, ◌∙◌, arith}
use Rattle.std.specs.Option.{option_copied_mut}
use Rattle.std.specs.FinMap as map
use Rattle.imap_user_map.specs.Rows.{with_value}
use Rattle.imap_world.proofs.Room.{of_some, put_keeps, room_of, put_room, some_of}
use Rattle.imap_world.proofs.Sets.{filled_reserved}
use Rattle.imap_world.proofs.subscriptions.reserve_names.Goals as goal

pub returns-in-Some-clause-sets : goal.returns-in-Some-clause-sets
returns-in-Some-clause-sets c =
    let old = c.args.subscriptions.now in
    let there : map.get old.map c.args.user.now ≡ Some c.in-Some.names.now = sym c.get_mut.ensures.value ∙ ap option_copied_mut c.in-Some.is in
    let is : c.get_mut.follows.lender c.reserve.new.self ≡ with_value old c.args.user.now c.reserve.new.self = of_some _ _ c.in-Some.is (c.get_mut.follows.holds c.reserve.new.self) in
    filled_reserved old (c.get_mut.follows.lender c.reserve.new.self) c.args.user.now c.in-Some.names.now c.reserve.new.self there (ap (λ r. r.map) is) c.reserve.ensures.map

pub returns-in-Some-clause-ok : goal.returns-in-Some-clause-ok
returns-in-Some-clause-ok c =
    let old = c.args.subscriptions.now in
    let is : c.get_mut.follows.lender c.reserve.new.self ≡ with_value old c.args.user.now c.reserve.new.self = of_some _ _ c.in-Some.is (c.get_mut.follows.holds c.reserve.new.self) in
    put_room old (c.get_mut.follows.lender c.reserve.new.self) c.args.user.now c.reserve.new.self (ap (λ r. r.map) is) c.args.more c.reserve.result c.reserve.ensures.ok

pub returns-in-Some-clause-room : goal.returns-in-Some-clause-room
returns-in-Some-clause-room c =
    let old = c.args.subscriptions.now in
    let there : map.get old.map c.args.user.now ≡ Some c.in-Some.names.now = sym c.get_mut.ensures.value ∙ ap option_copied_mut c.in-Some.is in
    let is : c.get_mut.follows.lender c.reserve.new.self ≡ with_value old c.args.user.now c.reserve.new.self = of_some _ _ c.in-Some.is (c.get_mut.follows.holds c.reserve.new.self) in
    put_keeps old (c.get_mut.follows.lender c.reserve.new.self) c.args.user.now c.reserve.new.self (ap (λ r. r.map) is)
    (λ more h. let had : more ≤ c.in-Some.names.now.spare = room_of (map.get old.map c.args.user.now) c.in-Some.names.now more there h in omega (arith, had, c.reserve.ensures.spare))

pub returns-in-None-clause-ok : goal.returns-in-None-clause-ok
returns-in-None-clause-ok c =
    absurd (some_of (map.get c.args.subscriptions.now.map c.args.user.now) c.requires (sym c.get_mut.ensures.value ∙ ap option_copied_mut c.in-None.is))
