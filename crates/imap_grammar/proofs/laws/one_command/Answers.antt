use Rattle.imap_commands.proofs.OneCommands.{each_is_one}
use Rattle.imap_grammar.proofs.laws.one_command.Goals as goal

pub returns : goal.returns
returns c = each_is_one
