-- What holds of the mailboxes over all runs.
use Rattle.std.specs.Prelude.{List}
use Rattle.imap_world.specs.Kept.{AreKept}
use Rattle.imap_world.specs.Laws.{KeepsValidities, MessagesGrown}
use Rattle.imap_core.specs.declared.step.Step.{Step}
use Rattle.imap_core.specs.Machine.{State, after_steps}

-- No UIDVALIDITY is used twice under a name, whatever steps are made (RFC 9051, section 2.3.1.1).
abbrev pub RunsKeepValidities : Type 0
RunsKeepValidities =
    (state : State) (steps : List Step) → KeepsValidities state.world (after_steps state steps).world

-- Under a name and a UIDVALIDITY messages only grow, whatever steps are made.
abbrev pub RunsGrowMessages : Type 0
RunsGrowMessages = (state : State) (steps : List Step)
    → AreKept state.world.mailboxes → MessagesGrown state.world (after_steps state steps).world
