use Rattle.imap_answer.proofs.Alike.{answers_alike}
use Rattle.imap_list.specs.ListCommand.{list_answer}
use Rattle.imap_list.specs.Status.{status_answer}
use Rattle.imap_list.specs.Subscriptions.{subscribe_answer, unsubscribe_answer}
use Rattle.imap_list.proofs.Fitting.{list_fits, status_fits, subscribe_fits, unsubscribe_fits}
use Rattle.imap_list.proofs.laws.commands_are_alike.Goals as goal

pub returns-clause-list : goal.returns-clause-list
returns-clause-list c = λ tag arguments. answers_alike (λ view. list_answer view tag arguments) (λ view. list_fits view tag arguments)

pub returns-clause-status : goal.returns-clause-status
returns-clause-status c =
    λ tag mailbox items. answers_alike (λ view. status_answer view tag mailbox items) (λ view. status_fits view tag mailbox items)

pub returns-clause-subscribe : goal.returns-clause-subscribe
returns-clause-subscribe c = λ tag mailbox. answers_alike (λ view. subscribe_answer view tag mailbox) (λ view. subscribe_fits view tag mailbox)

pub returns-clause-unsubscribe : goal.returns-clause-unsubscribe
returns-clause-unsubscribe c = λ tag mailbox.
    answers_alike (λ view. unsubscribe_answer view tag mailbox) (λ view. unsubscribe_fits view tag mailbox)
