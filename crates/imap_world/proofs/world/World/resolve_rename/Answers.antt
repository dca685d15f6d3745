use Rattle.std.proofs.Common.{◌≡◌, true, false, Err, rules, sym, ◌∙◌}
use Rattle.std.specs.FinMap as map
use Rattle.std.specs.Result.{is_ok}
use Rattle.imap_name_map.specs.Rows.{has_within}
use Rattle.imap_world.specs.declared.error.WorldError.TheVariants.{Limit}
use Rattle.imap_world.specs.Effects.{move_after, puts_of}
use Rattle.imap_world.specs.Moving.{arrivals, can_move, superior_rows}
use Rattle.imap_world.specs.Stored.{world_of}
use Rattle.imap_world.proofs.Limited.{move_limited, move_ok}
use Rattle.imap_world.proofs.Resolved.{limit_found, no_limit, renaming_of}
use Rattle.imap_world.proofs.world.World.resolve_rename.Goals as goal

pub returns-then-not-is_within_limits : goal.returns-then-not-is_within_limits
returns-then-not-is_within_limits c =
    let world = world_of c.args.self.now in
    let owner = c.args.owner.now in
    let old = c.args.old.now in
    let new = c.args.new.now in
    let meant = move_after old new (puts_of (superior_rows world owner new)) (arrivals world old new) in
    let there : map.contains_key world.mailboxes old ≡ true = search rules in
    let can : can_move old new ≡ true = search rules in
    let free : has_within new world.mailboxes ≡ false = search rules in
    let full : is_ok meant ≡ false = move_ok world owner old new ∙ sym (c.is_within_limits.ensures owner) ∙ c.if-not-is_within_limits.true in
    renaming_of (Err Limit) meant there can free (limit_found meant (move_limited world owner old new) full)

pub returns : goal.returns
returns c =
    let world = world_of c.args.self.now in
    let owner = c.args.owner.now in
    let old = c.args.old.now in
    let new = c.args.new.now in
    let meant = move_after old new (puts_of (superior_rows world owner new)) (arrivals world old new) in
    let there : map.contains_key world.mailboxes old ≡ true = search rules in
    let can : can_move old new ≡ true = search rules in
    let free : has_within new world.mailboxes ≡ false = search rules in
    let left : is_ok meant ≡ true = move_ok world owner old new ∙ sym (c.is_within_limits.ensures owner) ∙ c.if-not-is_within_limits.false in
    renaming_of c.resolve_move.result meant there can free (no_limit c.resolve_move.result meant left c.resolve_move.ensures)
