use Rattle.std.proofs.Common.{◌≡◌, ℕ, List, Some, sym, ap, subst, ◌∙◌}
use Rattle.std.specs.FinMap as map
use Rattle.imap_world.specs.Ready.{AreApart}
use Rattle.imap_world.specs.Stored.{world_of}
use Rattle.imap_core.specs.declared.opening.Opening.{Opening}
use Rattle.imap_core.specs.Opening.{Admission, admission, admission_of}
use Rattle.imap_sessions.specs.Sessions.{Own}
use Rattle.imap_core.proofs.Preparing.{found_so, starts_kept}
use Rattle.imap_core.proofs.Starting.{admission_apart, starts_so}
use Rattle.imap_core.proofs.machine.Core.open.Goals as goal

pub with_effects-requires : goal.with_effects-requires
with_effects-requires c =
    let world = world_of c.args.world in
    let asked : admission_of c.in_ok-opening.opening ≡ admission world c.args.administrator c.args.users.now =
    found_so (λ (o : Opening). admission_of o ≡ admission world c.args.administrator c.args.users.now) c.of_users-found.result c.in_ok-opening.opening c.in_ok-opening.ensures.made c.of_users-found.ensures in
    subst AreApart (sym (c.as_slice.ensures.value ∙ ap (λ (so_far : Admission). so_far.effects) asked))
    (admission_apart world c.args.administrator c.args.users.now)

pub invariant_of-core : goal.invariant_of-core
invariant_of-core c =
    let world = world_of c.args.world in
    let asked : admission_of c.in_ok-opening.opening ≡ admission world c.args.administrator c.args.users.now =
    found_so (λ (o : Opening). admission_of o ≡ admission world c.args.administrator c.args.users.now) c.of_users-found.result c.in_ok-opening.opening c.in_ok-opening.ensures.made c.of_users-found.ensures in
    starts_kept _ _ c.mailbox.ensures.valid c.mailbox.ensures.kept
    (subst (λ (a : Admission). (user : List ℕ) (own : Own) → map.get a.accounts user ≡ Some own → own ≡ map.empty) (sym asked)
    (starts_so world c.args.administrator c.args.users.now c.args.groups c.args.limits).sessions)
