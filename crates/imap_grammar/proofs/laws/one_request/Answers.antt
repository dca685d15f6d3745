use Rattle.imap_commands.proofs.Requests.{each_spells, spells_once}
use Rattle.imap_grammar.proofs.laws.one_request.Goals as goal

pub returns : goal.returns
returns c = record { some = each_spells; once = spells_once }
