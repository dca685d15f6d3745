use Rattle.std.proofs.Common.{◌≡◌, ◌∙◌, ℕ, List, Ok, Some, None, ap, subst, sym}
use Rattle.std.specs.FinMap as map
use Rattle.std.specs.Option.{option_copied_mut}
use Rattle.std.specs.String.{string_bytes}
use Rattle.imap_user_map.specs.Rows.{with_value}
use Rattle.imap_world.specs.Restored.{HaveName, Subscribes}
use Rattle.imap_world.specs.Stored.{Subscriptions}
use Rattle.imap_world.specs.Subscription.{Subscription}
use Rattle.imap_world.proofs.Room.{of_some}
use Rattle.imap_world.proofs.Subscribing.{absent, subscribes}
use Rattle.imap_world.proofs.restored.add_subscription.Goals as goal

pub returns-in-Some : goal.returns-in-Some
returns-in-Some c =
    let old = c.args.sets.now in
    let row : Subscription = record { user = string_bytes c.row.inside.user; name = c.row.inside.name } in
    let there : map.get old.map row.user ≡ Some c.in-Some.names.now = ap (λ (u : List ℕ). map.get old.map u) (sym c.as_str.ensures.value) ∙ sym c.get_mut.ensures.value ∙ ap option_copied_mut c.in-Some.is in
    let is : c.get_mut.follows.lender c.add_name.new.names ≡ with_value old c.as_str.result.now c.add_name.new.names = of_some _ _ c.in-Some.is (c.get_mut.follows.holds c.add_name.new.names) in
    subst (λ (r : Subscription). Subscribes r old (c.get_mut.follows.lender c.add_name.new.names) c.add_name.result) c.row.view_is
    (subscribes row old (c.get_mut.follows.lender c.add_name.new.names) c.in-Some.names.now c.add_name.new.names there
    (ap (λ r. r.map) is ∙ ap (λ (u : List ℕ). map.insert old.map u c.add_name.new.names) c.as_str.ensures.value) c.add_name.result c.add_name.ensures)

pub returns-in_ok-add_first-in-None : goal.returns-in_ok-add_first-in-None
returns-in_ok-add_first-in-None c =
    let old = c.args.sets.now in
    let row : Subscription = record { user = string_bytes c.row.inside.user; name = c.row.inside.name } in
    let none : map.get old.map row.user ≡ None = ap (λ (u : List ℕ). map.get old.map u) (sym c.as_str.ensures.value) ∙ sym c.get_mut.ensures.value ∙ ap option_copied_mut c.in-None.is in
    let have : HaveName row old c.add_first.new.sets = subst (λ (s : Subscriptions). HaveName row s c.add_first.new.sets) c.get_mut.follows.holds-at-none c.in_ok-add_first-in-None.ensures in
    subst (λ (r : Subscription). Subscribes r old c.add_first.new.sets (Ok tt)) c.row.view_is (absent old row.user row.name none, have)
