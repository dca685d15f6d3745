use Rattle.imap_core.proofs.Composed.{given_back}
use Rattle.imap_core.proofs.laws.what_is_given_back_tells_nothing.Goals as goal

pub returns : goal.returns
returns c = given_back c.steps_are_alike.ensures c.other_sessions_stay.ensures.users c.quiet_polls_change_nothing.ensures c.equal_views_are_same.ensures c.messages_grow.ensures
