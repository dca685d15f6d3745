use Rattle.std.proofs.Common.{refl, sym, ap, subst, ◌∙◌}
use Rattle.std.specs.Prelude.{option_and_then, option_copied}
use Rattle.std.specs.FinMap.{get}
use Rattle.std.specs.Map.Iter.{deref_pair}
use Rattle.std.proofs.lemmas.Map.Iter.{rest_more, rest_all}
use Rattle.imap_user_map.proofs.Within.{IsWalking, walk_begins, walk_goes_on, walk_ends, walk_fails}
use Rattle.imap_user_map.proofs.user_map.is_within.Goals as goal

pub loop-user-init : goal.loop-user-init
loop-user-init g c =
    let start = c.into_iter-user-iterator.ensures.into_iter_gives ∙ c.iter-user-items.ensures.rest in
    subst (IsWalking g.V.Part.kept c.args.entries.now c.args.other.now.map) (sym start)
    (walk_begins g.V.Part.kept c.args.entries.now c.args.other.now.map c.iter-user-items.ensures.found)

pub loop-user-preserved : goal.loop-user-preserved
loop-user-preserved g c =
    let here = rest_more deref_pair c.loop-user.user-iterator c.next.new.self c.next.result (c.in-Some.user, c.in-Some.value) c.in-Some.is c.next.ensures.steps in
    let found = c.get.ensures ∙ ap (get c.args.other.now.map) c.as_str.ensures.value in
    walk_goes_on g.V.Part.kept c.args.entries.now c.args.other.now.map c.loop-user.user-iterator c.next.new.self c.in-Some.user.now c.in-Some.value.now here
    (◌∙◌ {b = option_and_then g.V.Part.kept (option_copied c.get.result)} (c.is_same_part.ensures.0 c.if-not-is_same_part.false) (ap (option_and_then g.V.Part.kept) found)) c.loop-user.invariant

pub returns-then-not-is_same_part : goal.returns-then-not-is_same_part
returns-then-not-is_same_part g c =
    let here = rest_more deref_pair c.loop-user.user-iterator c.next.new.self c.next.result (c.in-Some.user, c.in-Some.value) c.in-Some.is c.next.ensures.steps in
    let found = c.get.ensures ∙ ap (get c.args.other.now.map) c.as_str.ensures.value in (
      λ e. absurd (cc e),
      λ is. (c.if-not-is_same_part.ensures).1
          (walk_fails g.V.Part.kept c.args.entries.now c.args.other.now.map c.loop-user.user-iterator c.next.new.self c.in-Some.user.now c.in-Some.value.now here c.loop-user.invariant is
          ∙ sym (ap (option_and_then g.V.Part.kept) found)),
    )

pub returns : goal.returns
returns g c =
    let none = rest_all deref_pair c.loop-user.user-iterator c.next.new.self c.next.result c.in-None.is c.next.ensures.steps in (
      λ _. walk_ends g.V.Part.kept c.args.entries.now c.args.other.now.map
          (subst (IsWalking g.V.Part.kept c.args.entries.now c.args.other.now.map) none c.loop-user.invariant),
      λ _. refl,
    )
