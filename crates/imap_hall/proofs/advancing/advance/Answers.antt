use Rattle.std.proofs.Common.{◌≡◌, ◌∙◌, refl, sym, ap, subst, map}
use Rattle.imap_saving.specs.Machine.{State, answer, next}
use Rattle.imap_saving.specs.Planned.{change_of, state_after}
use Rattle.imap_world.specs.Ready.{IsCurrent}
use Rattle.imap_hall.specs.Hall.{journal_entry}
use Rattle.imap_saving.specs.Performing.{AreReplies, Performs}
use Rattle.imap_saving.specs.Refusals.{unavailable}
use Rattle.imap_hall.proofs.Kept.{counted_from}
use Rattle.imap_hall.proofs.Stepped.{alone_as, entry_added, entry_is, on_err, saved_by, saved_unasked, second_is, stepped}
use Rattle.imap_hall.proofs.advancing.advance.Goals as goal

-- ---- nothing was made ready

pub returns-in_err-make_room-clause-err : goal.returns-in_err-make_room-clause-err
returns-in_err-make_room-clause-err g c = on_err c.from_residual.result (refl, c.make_room.ensures.same, c.make_room.ensures.items, refl)

pub returns-in_err-make_room-clause-saved : goal.returns-in_err-make_room-clause-saved
returns-in_err-make_room-clause-saved g c =
    saved_unasked g.K.Keeper.content g.K.Keeper.is_honest g.K.Keeper.leaves g.K.Keeper.stands c.args.core.now.state c.args.core.now.state c.args.step.now c.args.keeper.now refl c.requires.stored

pub returns-in_err-copy-clause-err : goal.returns-in_err-copy-clause-err
returns-in_err-copy-clause-err g c = on_err c.from_residual-in_err-copy.result (refl, c.make_room.ensures.same, c.make_room.ensures.items, refl)

pub returns-in_err-copy-clause-saved : goal.returns-in_err-copy-clause-saved
returns-in_err-copy-clause-saved g c =
    saved_unasked g.K.Keeper.content g.K.Keeper.is_honest g.K.Keeper.leaves g.K.Keeper.stands c.args.core.now.state c.args.core.now.state c.args.step.now c.args.keeper.now refl c.requires.stored

pub returns-in-Err-clause-err : goal.returns-in-Err-clause-err
returns-in-Err-clause-err g c = (c.make_ready.ensures.state, c.make_room.ensures.same, c.make_room.ensures.items, refl)

pub returns-in-Err-clause-saved : goal.returns-in-Err-clause-saved
returns-in-Err-clause-saved g c =
    saved_unasked g.K.Keeper.content g.K.Keeper.is_honest g.K.Keeper.leaves g.K.Keeper.stands c.args.core.now.state c.make_ready.new.core.state c.args.step.now c.args.keeper.now c.make_ready.ensures.state c.requires.stored

-- ---- what performing asks for

pub perform-requires : goal.perform-requires
perform-requires g c =
    let same = sym c.make_ready.ensures.state in
    let ready = c.in-Ok.ready in
    record {
      stored = subst (λ (s : State). g.K.Keeper.content c.args.keeper.now s.world) same c.requires.stored;
      current = subst (λ (s : State). IsCurrent (change_of ready.prepared) s.world) same c.in-Ok.ensures.current;
      ready = c.in-Ok.ensures.ready;
      next = subst (λ (s : State). state_after ready.prepared s ≡ next s c.args.step.now) same c.in-Ok.ensures.next;
      answered = subst (λ (s : State). AreReplies ready.answered (answer s c.args.step.now)) same c.in-Ok.ensures.answered;
      refusal = c.in-Ok.ensures.refusal;
    }

-- ---- nothing was performed

pub returns-in-Err-perform-clause-err : goal.returns-in-Err-perform-clause-err
returns-in-Err-perform-clause-err g c =
    (c.in-Err-perform.ensures.err.0 ∙ c.make_ready.ensures.state, c.make_room.ensures.same, c.make_room.ensures.items, c.in-Err-perform.ensures.err.1)

pub returns-in-Err-perform-clause-saved : goal.returns-in-Err-perform-clause-saved
returns-in-Err-perform-clause-saved g c =
    saved_by g.K.Keeper.content g.K.Keeper.is_honest g.K.Keeper.leaves g.K.Keeper.stands c.args.core.now.state c.make_ready.new.core.state c.args.step.now c.args.keeper.now c.make_ready.ensures.state
    c.perform.new.core.state c.perform.new.keeper (change_of c.in-Ok.ready.prepared) c.perform.ensures.stored c.in-Ok.ensures.unwritten.0 c.perform.ensures.unwritten c.perform.ensures.honest c.perform.ensures.crash

-- ---- the step was performed

pub returns-in-Ok-perform-clause-entries : goal.returns-in-Ok-perform-clause-entries
returns-in-Ok-perform-clause-entries g c =
    entry_added c.args.step.now c.append_entry.result.0 c.append_entry.ensures.items (ap (map journal_entry) c.make_room.ensures.items) c.in_ok-copy.ensures c.append_entry.ensures.first.1
    (entry_is c.make_ready.new.core.state c.perform.new.core.state c.args.counts.now.map c.raise_count.new.counts.map (g.K.Keeper.failed c.args.keeper.now) (g.K.Keeper.failed c.perform.new.keeper) c.args.step.now c.in-Ok-perform.replies c.in-Ok-perform.ensures.ok
    ∙ sym c.append_entry.ensures.first.2)

pub returns-in-Ok-perform-clause-counts : goal.returns-in-Ok-perform-clause-counts
returns-in-Ok-perform-clause-counts g c =
    counted_from c.args.step.now.who c.args.counts.now.map c.make_room.new.counts.map c.raise_count.new.counts.map c.make_room.ensures.same c.raise_count.ensures

pub returns-in-Ok-perform-clause-made : goal.returns-in-Ok-perform-clause-made
returns-in-Ok-perform-clause-made g c =
    let failed = g.K.Keeper.failed c.args.keeper.now in
    let fails = g.K.Keeper.failed c.perform.new.keeper in
    stepped c.args.core.now.state c.perform.new.core.state c.args.counts.now.map c.raise_count.new.counts.map failed fails c.args.step.now c.in-Ok-perform.replies
    (subst (λ (s : State). Performs s failed c.args.step.now c.in-Ok-perform.replies c.perform.new.core.state fails) c.make_ready.ensures.state c.in-Ok-perform.ensures.ok)
    c.append_entry.result.0 c.append_entry.ensures.first.2

pub returns-in-Ok-perform-clause-same : goal.returns-in-Ok-perform-clause-same
returns-in-Ok-perform-clause-same g c = record {
  place = c.append_entry.ensures.second.0 ∙ sym c.append_entry.ensures.first.0;
  own = c.append_entry.ensures.second.1 ∙ sym c.append_entry.ensures.first.1;
  replies = c.append_entry.ensures.second.2
      ∙ second_is c.make_ready.new.core.state c.perform.new.core.state c.args.counts.now.map c.raise_count.new.counts.map (g.K.Keeper.failed c.args.keeper.now) (g.K.Keeper.failed c.perform.new.keeper) c.args.step.now c.in-Ok-perform.replies c.in-Ok-perform.ensures.ok
      ∙ sym c.append_entry.ensures.first.2;
}

pub returns-in-Ok-perform-clause-saved : goal.returns-in-Ok-perform-clause-saved
returns-in-Ok-perform-clause-saved g c =
    saved_by g.K.Keeper.content g.K.Keeper.is_honest g.K.Keeper.leaves g.K.Keeper.stands c.args.core.now.state c.make_ready.new.core.state c.args.step.now c.args.keeper.now c.make_ready.ensures.state
    c.perform.new.core.state c.perform.new.keeper (change_of c.in-Ok.ready.prepared) c.perform.ensures.stored c.in-Ok.ensures.unwritten.0 c.perform.ensures.unwritten c.perform.ensures.honest c.perform.ensures.crash

pub returns-in-Ok-perform-clause-alone : goal.returns-in-Ok-perform-clause-alone
returns-in-Ok-perform-clause-alone g c = λ honest written.
    alone_as c.append_entry.result.0.replies c.in-Ok-perform.replies.receipt (unavailable c.args.step.now) c.append_entry.ensures.first.2
    (c.in-Ok-perform.ensures.alone honest (λ empty. written (c.in-Ok.ensures.unwritten.1 empty)))
