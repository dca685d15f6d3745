use Rattle.std.proofs.Common.{◌≡◌, ◌<◌, length, true, false, cond, List, Err, rules, sym, ap, subst, ◌∙◌}
use Rattle.std.specs.FinMap as map
use Rattle.std.specs.Result.{is_ok}
use Rattle.imap_world.specs.Changing.{Answers, AnswersOrMemory}
use Rattle.imap_world.specs.declared.change.Write.{Write}
use Rattle.imap_world.specs.declared.error.WorldError.TheVariants.{Limit, Taken}
use Rattle.imap_world.specs.Effects.{puts_of}
use Rattle.imap_world.specs.Stored.{world_of}
use Rattle.imap_world.specs.Tree.{created_rows, inherited, rows_for}
use Rattle.imap_world.proofs.Limited.{created_limited, created_ok, has_parts}
use Rattle.imap_world.proofs.Resolved.{limit_found, no_limit}
use Rattle.imap_world.proofs.world.World.resolve_create.Goals as goal

pub can_make-requires : goal.can_make-requires
can_make-requires c = subst (λ n. 1 < length n) (sym c.as_ref-2.ensures.name) (has_parts c.args.name.now c.as_ref-2.ensures.valid)

pub returns-then-not-can_make : goal.returns-then-not-can_make
returns-then-not-can_make c =
    let world = world_of c.args.self.now in
    let owner = c.args.owner.now in
    let name = c.args.name.now in
    let acl = inherited world.mailboxes owner name in
    let meant = puts_of (created_rows world owner name) in
    let absent : map.contains_key world.mailboxes name ≡ false = search rules in
    let full : is_ok (rows_for world acl name) ≡ false =
    ap (λ n. is_ok (rows_for world acl n)) (sym c.as_ref-2.ensures.name) ∙ sym (c.can_make.ensures acl) ∙ c.if-not-can_make.true in
    subst (λ b. Answers {A = List Write} (Err Limit) (cond b (Err Taken) meant)) (sym absent)
    (limit_found meant (created_limited world owner name) (created_ok world owner name ∙ full))

pub returns : goal.returns
returns c =
    let world = world_of c.args.self.now in
    let owner = c.args.owner.now in
    let name = c.args.name.now in
    let acl = inherited world.mailboxes owner name in
    let meant = puts_of (created_rows world owner name) in
    let absent : map.contains_key world.mailboxes name ≡ false = search rules in
    let left : is_ok (rows_for world acl name) ≡ true =
    ap (λ n. is_ok (rows_for world acl n)) (sym c.as_ref-2.ensures.name) ∙ sym (c.can_make.ensures acl) ∙ c.if-not-can_make.false in
    let answered : AnswersOrMemory c.resolve_rows.result meant = search rules in
    subst (λ b. Answers c.resolve_rows.result (cond b (Err Taken) meant)) (sym absent)
    (no_limit c.resolve_rows.result meant (created_ok world owner name ∙ left) answered)
