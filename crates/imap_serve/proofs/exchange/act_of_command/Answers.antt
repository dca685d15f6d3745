use Rattle.imap_serve.proofs.Scenes.{command_act, command_is_no_poll}
use Rattle.imap_serve.proofs.exchange.act_of_command.Goals as goal

pub returns-clause-asks : goal.returns-clause-asks
returns-clause-asks c = command_act _ c.args.octets.now c.in_ok-of_command.ensures

pub returns-clause-polls : goal.returns-clause-polls
returns-clause-polls c = command_is_no_poll _ c.args.octets.now c.in_ok-of_command.ensures
