use Rattle.std.proofs.Common.{ℕ, List, cond, Some, ap, ◌∙◌}
use Rattle.std.specs.Prelude.{is_some}
use Rattle.std.specs.Cmp.Lexicographic.{nat_list_cmp_total}
use Rattle.std.specs.FinMap as map
use Rattle.std.specs.FinMap.{get-insert}
use Rattle.std.specs.String.{string_bytes}
use Rattle.imap_name_map.specs.Rows as name
use Rattle.imap_user_map.specs.Rows.{Users}
use Rattle.imap_world.proofs.Room.{put_keeps, no_room, none_of}
use Rattle.imap_world.proofs.Sets.{filled_added, user_itself}
use Rattle.imap_world.proofs.subscriptions.add_user.Goals as goal

pub returns-clause-sets : goal.returns-clause-sets
returns-clause-sets c =
    let user : List ℕ = c.args.user.now in
    filled_added c.args.subscriptions.now c.insert_reserved.new.self user c.new.result (none_of _ c.requires)
    (c.insert_reserved.ensures.map ∙ ap (λ (m : Users (name.Rows (Unit {0}))). map.insert m (string_bytes c.in_ok-key.key) c.new.result) c.in_ok-reserve.ensures.map ∙ ap (λ k. map.insert c.args.subscriptions.now.map k c.new.result) c.in_ok-key.ensures.ok) c.new.ensures

pub returns-clause-ok : goal.returns-clause-ok
returns-clause-ok c =
    let user : List ℕ = c.args.user.now in
    ap (λ (m : Users (name.Rows (Unit {0}))). is_some (map.get m user)) (c.insert_reserved.ensures.map ∙ ap (λ k. map.insert c.reserve.new.self.map k c.new.result) c.in_ok-key.ensures.ok)
    ∙ ap is_some (get-insert nat_list_cmp_total c.reserve.new.self.map user c.new.result user)
    ∙ ap (λ b. is_some (cond b (Some c.new.result) (map.get c.reserve.new.self.map user))) (user_itself user)

pub returns-clause-room : goal.returns-clause-room
returns-clause-room c =
    let user : List ℕ = c.args.user.now in
    put_keeps c.args.subscriptions.now c.insert_reserved.new.self user c.new.result
    (c.insert_reserved.ensures.map ∙ ap (λ (m : Users (name.Rows (Unit {0}))). map.insert m (string_bytes c.in_ok-key.key) c.new.result) c.in_ok-reserve.ensures.map ∙ ap (λ k. map.insert c.args.subscriptions.now.map k c.new.result) c.in_ok-key.ensures.ok)
    (λ more h. absurd (no_room (map.get c.args.subscriptions.now.map user) more (none_of _ c.requires) h))
