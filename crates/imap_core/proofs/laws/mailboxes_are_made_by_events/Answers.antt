use Rattle.imap_core.proofs.MadeByEvents.{none_are_made, runs_are_made, starts_are_made}
use Rattle.imap_core.proofs.laws.mailboxes_are_made_by_events.Goals as goal

pub returns-clause-none : goal.returns-clause-none
returns-clause-none c = none_are_made

pub returns-clause-starts : goal.returns-clause-starts
returns-clause-starts c = starts_are_made

pub returns-clause-runs : goal.returns-clause-runs
returns-clause-runs c = runs_are_made
