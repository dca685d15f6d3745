use Rattle.imap_core.proofs.Composed.{isolated}
use Rattle.imap_core.proofs.laws.isolation.Goals as goal

pub returns : goal.returns
returns c = isolated c.steps_are_alike.ensures c.other_sessions_stay.ensures.users c.quiet_polls_change_nothing.ensures c.equal_views_are_same.ensures c.messages_grow.ensures
