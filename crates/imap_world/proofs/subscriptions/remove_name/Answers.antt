use Rattle.std.proofs.Common.{◌≡◌, ◌+◌, ◌≤◌, Some, None, sym, ap, subst, ◌∙◌, arith}
use Rattle.std.specs.Option.{option_copied_mut}
use Rattle.std.specs.FinMap as map
use Rattle.imap_user_map.specs.Rows.{with_value}
use Rattle.imap_world.specs.Stored.{filled_sets}
use Rattle.imap_world.proofs.Room.{of_some, put_leaves, room_of, len_without}
use Rattle.imap_world.proofs.Sets.{filled_changed, filled_without}
use Rattle.imap_world.proofs.subscriptions.remove_name.Goals as goal

pub returns-in-Some-clause-sets : goal.returns-in-Some-clause-sets
returns-in-Some-clause-sets c =
    let old = c.args.subscriptions.now in
    let there : map.get old.map c.args.user.now ≡ Some c.in-Some.names.now = sym c.get_mut.ensures.value ∙ ap option_copied_mut c.in-Some.is in
    let is : c.get_mut.follows.lender c.remove.new.self ≡ with_value old c.args.user.now c.remove.new.self = of_some _ _ c.in-Some.is (c.get_mut.follows.holds c.remove.new.self) in
    filled_changed (λ names. map.remove names c.args.name.now) old (c.get_mut.follows.lender c.remove.new.self) c.args.user.now c.in-Some.names.now c.remove.new.self there (ap (λ r. r.map) is) c.remove.ensures.map

pub returns-in-Some-clause-room : goal.returns-in-Some-clause-room
returns-in-Some-clause-room c =
    let old = c.args.subscriptions.now in
    let there : map.get old.map c.args.user.now ≡ Some c.in-Some.names.now = sym c.get_mut.ensures.value ∙ ap option_copied_mut c.in-Some.is in
    let is : c.get_mut.follows.lender c.remove.new.self ≡ with_value old c.args.user.now c.remove.new.self = of_some _ _ c.in-Some.is (c.get_mut.follows.holds c.remove.new.self) in
    put_leaves old (c.get_mut.follows.lender c.remove.new.self) c.args.user.now c.remove.new.self (ap (λ r. r.map) is)
    (λ more h. let had : more + 1 ≤ c.in-Some.names.now.spare = room_of (map.get old.map c.args.user.now) c.in-Some.names.now (more + 1) there h in
    let kept : map.len c.remove.new.self.map ≤ map.len c.in-Some.names.now.map = subst (λ m. map.len m ≤ map.len c.in-Some.names.now.map) (sym c.remove.ensures.map) (len_without c.in-Some.names.now.map c.args.name.now) in
    omega (arith, had, kept, c.remove.ensures.spare))

pub returns-in-None-clause-sets : goal.returns-in-None-clause-sets
returns-in-None-clause-sets c =
    let old = c.args.subscriptions.now in
    let absent : map.get old.map c.args.user.now ≡ None = sym c.get_mut.ensures.value ∙ ap option_copied_mut c.in-None.is in
    ap filled_sets c.get_mut.follows.holds-at-none ∙ filled_without old c.args.user.now c.args.name.now absent
