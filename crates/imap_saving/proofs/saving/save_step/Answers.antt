use Rattle.imap_saving.proofs.saving.save_step.Goals as goal

pub save_change-requires : goal.save_change-requires
save_change-requires g c = (c.args.core.now.state.world, c.requires.stored, c.requires.current)

pub returns : goal.returns
returns g c =
    let world = c.args.core.now.state.world in
    record {
      ok = c.save_change.ensures.ok world c.requires.stored c.requires.current;
      err = c.save_change.ensures.err world c.requires.stored;
      failures = c.save_change.ensures.failures;
      undamaged = c.save_change.ensures.undamaged;
      unwritten = λ empty. (c.save_change.ensures.unwritten empty).0;
      honest = c.save_change.ensures.honest;
      crash = λ honest. c.save_change.ensures.crash honest world c.requires.stored c.requires.current;
      alone = λ honest. c.save_change.ensures.alone honest world c.requires.stored c.requires.current;
    }
