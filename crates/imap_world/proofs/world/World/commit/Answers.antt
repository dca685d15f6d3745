use Rattle.std.proofs.Common.{◌≡◌, [], refl, sym, ap, subst, ◌∙◌}
use Rattle.imap_world.specs.Effects.{after_writes}
use Rattle.imap_world.specs.Laws.{KeepsValidities}
use Rattle.imap_world.specs.Ready.{AreReady, count_of}
use Rattle.imap_world.specs.Stored.{world_of}
use Rattle.imap_world.proofs.Histories.{keeps_itself, write_kept}
use Rattle.imap_world.proofs.Current.{current_is_ready, made_by_effects, nothing_left}
use Rattle.imap_world.proofs.Room.{first_ready, rest_ready}
use Rattle.imap_world.proofs.world.World.commit.Goals as goal

pub loop-write-init : goal.loop-write-init
loop-write-init c = record {
  rest = ap (λ ws. after_writes ws (world_of c.args.self.now)) (c.from_vec-writes.ensures.items ∙ c.into_writes.ensures);
  ready = subst (λ ws. AreReady ws c.args.self.now) (sym (c.from_vec-writes.ensures.items ∙ c.into_writes.ensures)) (current_is_ready c.args.change c.args.self.now c.requires);
  kept = keeps_itself (world_of c.args.self.now);
}

pub write-requires : goal.write-requires
write-requires c =
    first_ready c.loop-write.self c.in-Some.write c.pop_front.new.self.items
    (subst (λ ws. AreReady ws c.loop-write.self) c.in-Some.ensures.items c.loop-write.invariant.ready)

pub loop-write-preserved : goal.loop-write-preserved
loop-write-preserved c = record {
  rest = ap (after_writes c.pop_front.new.self.items) c.write.ensures.world ∙ sym (ap (λ ws. after_writes ws (world_of c.loop-write.self)) c.in-Some.ensures.items) ∙ c.loop-write.invariant.rest;
  ready = rest_ready (count_of c.in-Some.write) c.loop-write.self c.write.new.self c.write.ensures.room c.in-Some.write c.pop_front.new.self.items refl c.write.ensures.world
      (subst (λ ws. AreReady ws c.loop-write.self) c.in-Some.ensures.items c.loop-write.invariant.ready);
  kept =
      let ready = subst (λ ws. AreReady ws c.loop-write.self) c.in-Some.ensures.items c.loop-write.invariant.ready in
      subst (KeepsValidities (world_of c.args.self.now)) (sym c.write.ensures.world)
      (write_kept (world_of c.args.self.now) (world_of c.loop-write.self) c.loop-write.invariant.kept c.in-Some.write ready.may.0);
}

pub returns-clause-effects : goal.returns-clause-effects
returns-clause-effects c =
    let change = c.args.change in
    let before = world_of c.args.self.now in
    let after = world_of c.loop-write.self in
    let none : c.loop-write.writes.items ≡ [] = nothing_left c.loop-write.writes.items (c.in_default.ensures.items ∙ c.in_default.ensures.rest) in
    let written : after ≡ after_writes change before = ap (λ ws. after_writes ws after) (sym none) ∙ c.loop-write.invariant.rest in
    made_by_effects change before after c.requires.current written
